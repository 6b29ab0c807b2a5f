-- `pinned` goes through the roles below the limit; the invariant: the total is that of the roles passed.
use Rattle.std.proofs.Common.{◌*◌, ◌^◌, ◌≤◌, ◌≡◌}
use Rattle.model.specs.Meaning.{meaning}
use Rattle.judging.specs.Verdict.{pinned_below}
use Rattle.judging.proofs.pinned.Given as goal

abbrev pub invariant-loop-role : goal.invariant-loop-role
invariant-loop-role l = (l.total ≤ l.role * 2 ^ 33) × (l.total ≡ pinned_below l.role (meaning l.t))
