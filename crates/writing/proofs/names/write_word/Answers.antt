-- `write_word` walks over the bytes of the word: those passed are written, and the rest is 0 when all are.
use Rattle.std.proofs.Common.{rules, arith}
use Rattle.writing.specs.Written.{letters}
use Rattle.writing.proofs.Buffers.{wrote_none, wrote-next, wrote_all, byte_room, written}
use Rattle.writing.specs.Spelling.{passed_none, passed_some, passed_here, passed_byte, passed_next, passed_all}
use Rattle.writing.proofs.names.write_word.Goals as goal

pub loop-rest-init : goal.loop-rest-init
loop-rest-init c = (passed_none _ (search rules), wrote_none)

pub bounds-out-at : goal.bounds-out-at
bounds-out-at c = byte_room c.loop-rest.invariant.1 (omega (arith, passed_here c.loop-rest.invariant.0 c.loop-rest-test.true))

pub overflow_add-at : goal.overflow_add-at
overflow_add-at c = omega (arith, passed_some c.loop-rest.invariant.0 c.loop-rest-test.true)

pub loop-rest-smaller : goal.loop-rest-smaller
loop-rest-smaller c = omega arith

pub loop-rest-preserved : goal.loop-rest-preserved
loop-rest-preserved c = (passed_next c.loop-rest.invariant.0 c.loop-rest-test.true, rw (passed_byte c.loop-rest.invariant.0 c.loop-rest-test.true) at (wrote-next (letters 8 c.args.word) c.loop-rest.invariant.1 (passed_here c.loop-rest.invariant.0 c.loop-rest-test.true) c.requires))

pub returns : goal.returns
returns c = written (wrote_all _ c.loop-rest.invariant.1 (passed_all c.loop-rest.invariant.0 (search rules)))
