-- `check_in` refuses too few words, and lends so many as a ledger has of any others.
use Rattle.std.proofs.Common.{length-take, sym, ◌∙◌, arith}
use Rattle.ledgers.specs.MemoryLaws.{memory_short, memory_enough, spared_all, spared_past}
use Rattle.answering.proofs.check_in.Goals as goal

pub returns-then-memory-lt-WORDS : goal.returns-then-memory-lt-WORDS
returns-then-memory-lt-WORDS c = record { value = sym (memory_short _ _ _ _ c.if-memory-lt-WORDS.true); spared = spared_all }

pub slice_bounds-answer_with-end-2 : goal.slice_bounds-answer_with-end-2
slice_bounds-answer_with-end-2 c = simp length-take (omega arith)

pub answer_with-requires : goal.answer_with-requires
answer_with-requires c = simp length-take (omega arith)

pub returns : goal.returns
returns c = record {
  value = c.answer_with.ensures ∙ sym (memory_enough _ _ _ _ c.if-memory-lt-WORDS.false);
  spared = spared_past 3072 c.args.memory.now c.answer_with.new.ledger c.if-memory-lt-WORDS.false (omega (arith, c.answer_with.auto.ledger, length-take 3072 c.args.memory.now));
}
