-- `read_typing` goes from line to line: the arrays hold what the rows so far say, and the rest of the text decides.
use Rattle.std.proofs.Common.{◌-◌, length}
use Rattle.typings.specs.TypingReached.{Reached}
use Rattle.tables.specs.Listed.{rows_of}
use Rattle.typings.proofs.read_typing.Given as goal

abbrev pub invariant-loop-at : goal.invariant-loop-at
invariant-loop-at l = Reached (rows_of l.roles) l.text l.at l.number l.stage l.typing

abbrev pub decreases-loop-at : goal.decreases-loop-at
decreases-loop-at l = length l.text - l.at
