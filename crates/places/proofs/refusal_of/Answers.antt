-- `refusal_of` is the refusal of the answer, which is that of the readers.
use Rattle.std.proofs.Common.{sym, ap, ◌∙◌}
use Rattle.places.specs.Answered.{refusal_in}
use Rattle.places.proofs.AnsweredLaws.{refused_place}
use Rattle.places.proofs.refusal_of.Goals as goal

pub returns : goal.returns
returns c = c.refusal_in.ensures ∙ ap refusal_in c.check.ensures ∙ sym (refused_place _ _)
