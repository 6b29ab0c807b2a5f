-- `sum_in` compares the memory with a ledger's words, and lends as many of them on.
use Rattle.std.proofs.Common.{sym, length-take-le, arith}
use Rattle.ledgers.specs.MemoryLaws.{memory_short, memory_enough, spared_all, spared_past}
use Rattle.summing.specs.Meeting.{meets_as, meets_leaving}
use Rattle.summing.proofs.sum_in.Goals as goal

pub returns-then-memory-lt-WORDS : goal.returns-then-memory-lt-WORDS
returns-then-memory-lt-WORDS c = record { meets = meets_leaving (memory_short _ _ _ _ c.if-memory-lt-WORDS.true); spared = spared_all }

pub slice_bounds-sum_with-end-2 : goal.slice_bounds-sum_with-end-2
slice_bounds-sum_with-end-2 c = sym (length-take-le 3072 c.args.memory.now c.if-memory-lt-WORDS.false)

pub returns : goal.returns
returns c = record { meets = meets_as (memory_enough _ _ _ _ c.if-memory-lt-WORDS.false) c.sum_with.ensures; spared = spared_past 3072 c.args.memory.now c.sum_with.new.ledger c.if-memory-lt-WORDS.false (omega (arith, length-take-le 3072 c.args.memory.now c.if-memory-lt-WORDS.false)) }
