-- `write_set` goes through the members; the invariant: what is written is the text of the roles passed.
use Rattle.std.proofs.Common.{ℕ}
use Rattle.writing.proofs.Buffers.{Wrote}
use Rattle.spelling.proofs.TypingSteps.{set_below}
use Rattle.spelling.proofs.Members.{SetPassed}
use Rattle.spelling.proofs.write_set.Given as goal

abbrev pub invariant-loop-role : goal.invariant-loop-role
invariant-loop-role l = (from : ℕ) × SetPassed l.roles.words.now l.roles.count l.fn.set from l.role-iterator.left l.some × Wrote (set_below l.roles.words.now l.fn.set from) l.initial.out l.at l.out
