-- `text_length` goes through the roles; the invariant: what is counted is the header and the lines passed.
use Rattle.std.proofs.Common.{length, ◌≡◌}
use Rattle.model.specs.Meaning.{meaning}
use Rattle.spelling.proofs.TypingSteps.{lines_below}
use Rattle.spelling.proofs.text_length.Given as goal

abbrev pub invariant-loop-role : goal.invariant-loop-role
invariant-loop-role l = l.total ≡ length (lines_below l.roles.count l.roles.words.now (meaning l.t) l.role)
