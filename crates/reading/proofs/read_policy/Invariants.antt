-- `read_policy` goes from line to line: the ledger says what the lines so far say, and the rest of the text decides.
use Rattle.std.proofs.Common.{◌-◌, length, ◌≡◌}
use Rattle.reading.specs.Between.{Between}
use Rattle.reading.proofs.read_policy.Given as goal

abbrev pub invariant-loop-at : goal.invariant-loop-at
invariant-loop-at l = (length l.ledger ≡ length l.initial.ledger) × Between l.text l.at l.number l.ledger l.c

abbrev pub decreases-loop-at : goal.decreases-loop-at
decreases-loop-at l = length l.text - l.at
