-- `merge_in` compares the memory with the words of two ledgers, and lends as many of them on.
use Rattle.std.proofs.Common.{sym, ap, ◌∙◌, length-take-le, arith}
use Rattle.ledgers.specs.MemoryLaws.{memory_short, memory_enough, spared_all, spared_past}
use Rattle.summing.specs.Outcome.{leaves}
use Rattle.summing.specs.Meeting.{meets_as, meets_leaving}
use Rattle.merging.proofs.merge.merge_in.Goals as goal

pub returns-then-memory-lt-MERGE_WORDS : goal.returns-then-memory-lt-MERGE_WORDS
returns-then-memory-lt-MERGE_WORDS c = record { meets = meets_leaving (memory_short _ _ _ _ c.if-memory-lt-MERGE_WORDS.true ∙ ap leaves (sym c.of_none.ensures)); spared = spared_all }

pub slice_bounds-merge_with-end-2 : goal.slice_bounds-merge_with-end-2
slice_bounds-merge_with-end-2 c = sym (length-take-le 6144 c.args.memory.now c.if-memory-lt-MERGE_WORDS.false)

pub returns : goal.returns
returns c = record { meets = meets_as (memory_enough _ _ _ _ c.if-memory-lt-MERGE_WORDS.false) c.merge_with.ensures; spared = spared_past 6144 c.args.memory.now c.merge_with.new.memory c.if-memory-lt-MERGE_WORDS.false (omega (arith, length-take-le 6144 c.args.memory.now c.if-memory-lt-MERGE_WORDS.false)) }
