-- `find` goes through eight bytes one by one; the invariant: those passed over are there, and none of them is the mark.
use Rattle.std.proofs.Common.{ℕ, ◌+◌, ◌≤◌, ◌≡◌, length, drop}
use Rattle.text.specs.Index.{index_of}
use Rattle.text.proofs.find.Given as goal

abbrev pub invariant-loop-i : goal.invariant-loop-i
invariant-loop-i l = (l.from + l.i ≤ length l.s) × (index_of l.mark (drop l.from l.s) ≡ l.i + index_of l.mark (drop (l.from + l.i) l.s))
