-- `seek` passes over eight bytes at a time, as long as none of them is the mark; what is left is looked at one by one.
use Rattle.std.proofs.Common.{ℕ, ◌-◌, ◌≤◌, length}
use Rattle.text.specs.Pieces.{Sought}
use Rattle.text.proofs.seek.Given as goal

abbrev pub invariant-loop-at : goal.invariant-loop-at
invariant-loop-at l = (l.at ≤ length l.s) × ((place : ℕ) → Sought l.s l.at l.mark place → Sought l.s l.from l.mark place)

abbrev pub decreases-loop-at : goal.decreases-loop-at
decreases-loop-at l = length l.s - l.at
