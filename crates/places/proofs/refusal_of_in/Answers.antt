-- `refusal_of_in` is the refusal of the answer, which is that of the readers, or of too few words.
use Rattle.std.proofs.Common.{sym, ap, ◌∙◌}
use Rattle.ledgers.specs.Ledger.{ledger_words}
use Rattle.ledgers.specs.Memory.{in_memory}
use Rattle.ledgers.specs.MemoryLaws.{memory_map}
use Rattle.places.specs.Place.{lent_refusal}
use Rattle.places.specs.Answered.{refusal_in}
use Rattle.places.proofs.AnsweredLaws.{refused_place}
use Rattle.places.proofs.refusal_of_in.Goals as goal

pub returns : goal.returns
unfolding lent_refusal refusal_in
returns c = record {
  value = c.refusal_in.ensures ∙ ap refusal_in c.check_in.ensures.value ∙ memory_map ledger_words _ refusal_in _ _ ∙ ap (in_memory ledger_words _ _) (sym (refused_place _ _));
  spared = c.check_in.ensures.spared;
}
