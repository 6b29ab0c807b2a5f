-- `has` shifts the word that the role stands in; the tests say which word that is.
use Rattle.std.proofs.Common.{lt-ltb, le-ltb}
use Rattle.roles.specs.Sets.{has_role, bit}
use Rattle.roles.proofs.RoleSet.has.Goals as goal

pub returns-then-role-lt64 : goal.returns-then-role-lt64
unfolding has_role bit
returns-then-role-lt64 c = rw (lt-ltb _ _ c.if-role-lt64.true)

pub returns-then-role-lt128 : goal.returns-then-role-lt128
unfolding has_role bit
returns-then-role-lt128 c = rw (le-ltb _ _ c.if-role-lt64.false, lt-ltb _ _ c.if-role-lt128.true)

pub returns : goal.returns
unfolding has_role bit
returns c = rw (le-ltb _ _ c.if-role-lt64.false, le-ltb _ _ c.if-role-lt128.false)
