-- `write_typing` goes through the roles; the invariant: wherever the header was put, it and the lines of the roles passed are put now.
use Rattle.std.proofs.Common.{ℕ, List}
use Rattle.model.specs.Meaning.{meaning}
use Rattle.text.specs.Forms.{bytes}
use Rattle.writing.proofs.Buffers.{Wrote}
use Rattle.spelling.proofs.TypingSteps.{lines_below}
use Rattle.spelling.proofs.write_typing.Given as goal

abbrev pub invariant-loop-role : goal.invariant-loop-role
invariant-loop-role l = (buffer : List ℕ) → Wrote (bytes "typing\t1\n") buffer l.initial.at l.initial.out → Wrote (lines_below l.roles.count l.roles.words.now (meaning l.t) l.role) buffer l.at l.out
