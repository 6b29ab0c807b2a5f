-- `write_word` walks over the bytes of the word: those passed are written, and the rest is 0 when all are.
use Rattle.std.proofs.Common.{take}
use Rattle.writing.specs.Written.{letters}
use Rattle.writing.proofs.Buffers.{Wrote}
use Rattle.writing.specs.Spelling.{Passed}
use Rattle.writing.proofs.names.write_word.Given as goal

abbrev pub invariant-loop-rest : goal.invariant-loop-rest
invariant-loop-rest l = Passed l.word l.at l.rest × Wrote (take l.at (letters 8 l.word)) l.initial.out l.at l.out

abbrev pub decreases-loop-rest : goal.decreases-loop-rest
decreases-loop-rest l = l.rest
