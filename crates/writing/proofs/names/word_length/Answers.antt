-- `word_length` walks over the bytes of the word: the count is of the bytes passed, and the rest is 0 when all are.
use Rattle.std.proofs.Common.{rules, arith}
use Rattle.writing.specs.Spelling.{passed_none, passed_some, passed_next, passed_all}
use Rattle.writing.proofs.names.word_length.Goals as goal

pub loop-rest-init : goal.loop-rest-init
loop-rest-init c = passed_none _ (search rules)

pub overflow_add-count : goal.overflow_add-count
overflow_add-count c = omega (arith, passed_some c.loop-rest.invariant c.loop-rest-test.true)

pub loop-rest-smaller : goal.loop-rest-smaller
loop-rest-smaller c = omega arith

pub loop-rest-preserved : goal.loop-rest-preserved
loop-rest-preserved c = passed_next c.loop-rest.invariant c.loop-rest-test.true

pub returns : goal.returns
returns c = passed_all c.loop-rest.invariant (search rules)
