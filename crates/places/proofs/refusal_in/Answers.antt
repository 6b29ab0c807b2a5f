-- `refusal_in` has the values of an answer that is a refusal.
use Rattle.std.proofs.Common.{None, ◌≡◌, refl, sym, ap}
use Rattle.walking.specs.declared.Refusal.{Refusal}
use Rattle.answering.specs.declared.Answer.{Answer}
use Rattle.places.specs.Answered.{refusal_in}
use Rattle.places.proofs.refusal_in.Goals as goal

-- an answer that is no refusal has none
no-refusal : (a : Answer) → ((refusal : Refusal) → a ≡ Answer.Refused refusal → ⊥) → None ≡ refusal_in a
unfolding refusal_in
no-refusal (Answer.Safe roles assigns revokes goals pinned) other = refl
no-refusal (Answer.Attacked steps user name goal) other = refl
no-refusal (Answer.Unproved part number) other = refl
no-refusal (Answer.Broken step) other = refl
no-refusal (Answer.Short steps) other = refl
no-refusal (Answer.Refused refusal) other = absurd (other refusal refl)

pub returns-in-Refused : goal.returns-in-Refused
unfolding refusal_in
returns-in-Refused c = sym (ap refusal_in c.in-Refused.is)

pub returns-in_default : goal.returns-in_default
returns-in_default c = no-refusal c.args.answer c.in_default.not-Refused
