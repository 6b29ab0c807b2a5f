-- `sets_of` goes through the members from the lowest on; the invariant: the answer is what is joined so far with the sets of those that are left.
use Rattle.std.proofs.Common.{◌≡◌}
use Rattle.roles.specs.Sets.{union_of}
use Rattle.sheets.specs.Turned.{sets_of}
use Rattle.sheets.specs.Words.{set_in}
use Rattle.sheets.proofs.sets_of.Given as goal

abbrev pub invariant-loop-role : goal.invariant-loop-role
invariant-loop-role l = sets_of (set_in l.sheet l.column) l.fn.members ≡ union_of l.all (sets_of (set_in l.sheet l.column) l.role-iterator.left)
