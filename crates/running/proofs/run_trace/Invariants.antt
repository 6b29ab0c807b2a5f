-- `run_trace` goes from line to line after the header: the steps so far run to the people of the ledger, and the rest of the text decides.
use Rattle.std.proofs.Common.{◌-◌, length, ◌≡◌}
use Rattle.reading.specs.Ledger.{ledger_says}
use Rattle.running.proofs.Reached.{Reached}
use Rattle.running.proofs.run_trace.Given as goal

abbrev pub invariant-loop-at : goal.invariant-loop-at
invariant-loop-at l = (length l.ledger ≡ length l.initial.ledger) × Reached (ledger_says l.initial.ledger l.initial.known) l.known l.text l.at l.number l.steps l.broken l.ledger

abbrev pub decreases-loop-at : goal.decreases-loop-at
decreases-loop-at l = length l.text - l.at
