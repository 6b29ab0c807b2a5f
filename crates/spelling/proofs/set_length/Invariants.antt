-- `set_length` goes through the members; the invariant: what is counted is the text of the roles passed.
use Rattle.std.proofs.Common.{ℕ, length, ◌≡◌}
use Rattle.spelling.proofs.TypingSteps.{set_below}
use Rattle.spelling.proofs.Members.{SetPassed}
use Rattle.spelling.proofs.set_length.Given as goal

abbrev pub invariant-loop-role : goal.invariant-loop-role
invariant-loop-role l = (from : ℕ) × SetPassed l.roles.words.now l.roles.count l.fn.set from l.role-iterator.left l.some × (l.at ≡ length (set_below l.roles.words.now l.fn.set from))
