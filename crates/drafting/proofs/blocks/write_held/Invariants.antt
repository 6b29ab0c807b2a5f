-- `write_held` goes through the roles; the invariant: the lines of the roles passed are added.
use Rattle.std.proofs.Common.{length, ◌≡◌}
use Rattle.inscribing.specs.LineLaws.{lines_in}
use Rattle.drafting.specs.BlockLaws.{held_below}
use Rattle.inscribing.specs.Adding.{Adds}
use Rattle.drafting.proofs.blocks.write_held.Given as goal

abbrev pub invariant-loop-role : goal.invariant-loop-role
invariant-loop-role l = (length l.out ≡ length l.initial.out) × Adds (lines_in l.ledger l.c (held_below l.user l.held l.role)) l.at l.initial.out l.to l.out
