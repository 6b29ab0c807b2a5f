-- `first_failing` goes through the rows of a part that are counted; the invariant: those passed over pass.
use Rattle.std.proofs.Common.{ℕ, ◌<◌, true}
use Rattle.judging.proofs.first_failing.Given as goal

abbrev pub invariant-loop-place : goal.invariant-loop-place
invariant-loop-place g l = (before : ℕ) → before < l.place → goal.F-post g l.passes before true
