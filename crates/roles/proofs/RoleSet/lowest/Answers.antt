-- `lowest` counts the zeros below the lowest role of the low word, and of the high word where the low one has no role.
use Rattle.std.proofs.Common.{lt-ltb, le-ltb, arith}
use Rattle.roles.specs.Sets.{lowest_role}
use Rattle.roles.specs.Taking.{lowest_some, lowest_nothing}
use Rattle.roles.proofs.RoleSet.lowest.Goals as goal

pub returns-then-low-lt64 : goal.returns-then-low-lt64
unfolding lowest_role
returns-then-low-lt64 c = lowest_some c.args.self (rw (lt-ltb _ _ c.if-low-lt64.true)) (omega arith)

pub returns-then-high-lt64 : goal.returns-then-high-lt64
unfolding lowest_role
returns-then-high-lt64 c = lowest_some c.args.self (rw (le-ltb _ _ c.if-low-lt64.false)) (omega arith)

pub returns : goal.returns
unfolding lowest_role
returns c = lowest_nothing c.args.self (rw (le-ltb _ _ c.if-low-lt64.false) (omega arith))
