-- `write_block` goes through the elements; the invariant: the lines of the elements passed are added.
use Rattle.std.proofs.Common.{length, ◌≡◌}
use Rattle.reading.specs.Ledger.{ledger_says}
use Rattle.drafting.specs.PolicyText.{first_of}
use Rattle.inscribing.specs.LineLaws.{lines_in}
use Rattle.inscribing.specs.Adding.{Adds}
use Rattle.drafting.proofs.blocks.write_block.Given as goal

abbrev pub invariant-loop-place : goal.invariant-loop-place
invariant-loop-place l = (length l.out ≡ length l.initial.out) × Adds (lines_in l.ledger l.c (first_of (ledger_says l.ledger l.c) l.block l.place)) l.at l.initial.out l.to l.out
