-- `typing_refusal_in` refuses too few words, and lends so many as a ledger has of any others.
use Rattle.std.proofs.Common.{length-take, sym, ◌∙◌, arith}
use Rattle.ledgers.specs.MemoryLaws.{memory_short, memory_enough, spared_all, spared_past}
use Rattle.places.specs.Place.{lent_refusal}
use Rattle.places.proofs.typing_refusal_in.Goals as goal

pub returns-then-memory-lt-WORDS : goal.returns-then-memory-lt-WORDS
unfolding lent_refusal
returns-then-memory-lt-WORDS c = record { value = sym (memory_short _ _ _ _ c.if-memory-lt-WORDS.true); spared = spared_all }

pub returns : goal.returns
unfolding lent_refusal
returns c = record {
  value = c.err.ensures.value ∙ c.read_both.ensures ∙ sym (memory_enough _ _ _ _ c.if-memory-lt-WORDS.false);
  spared = spared_past 3072 c.args.memory.now c.read_both.new.ledger c.if-memory-lt-WORDS.false (omega (arith, c.read_both.auto.ledger, length-take 3072 c.args.memory.now));
}
