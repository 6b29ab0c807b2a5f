-- `word_length` walks over the bytes of the word: the count is of the bytes passed, and the rest is 0 when all are.
use Rattle.writing.specs.Spelling.{Passed}
use Rattle.writing.proofs.names.word_length.Given as goal

abbrev pub invariant-loop-rest : goal.invariant-loop-rest
invariant-loop-rest l = Passed l.word l.count l.rest

abbrev pub decreases-loop-rest : goal.decreases-loop-rest
decreases-loop-rest l = l.rest
