-- `place_of` is the place of the refusal's line, and the policy's start where there is none.
use Rattle.std.proofs.Common.{sym, ap, ◌∙◌}
use Rattle.places.specs.Place.{place_of, placed, no_place}
use Rattle.places.specs.PlaceLaws.{place_told}
use Rattle.places.proofs.place_of.Goals as goal

pub returns-in_default : goal.returns-in_default
unfolding place_of no_place
returns-in_default c = sym (ap (place_of _ _) c.in_default.is)

pub returns-in_default-bad_span : goal.returns-in_default-bad_span
unfolding placed no_place
returns-in_default-bad_span c = place_told _ _ _ (sym c.in_default-bad_span.is ∙ c.bad_span.ensures) ∙ sym (ap (place_of _ _) c.in-Some.is)

pub returns : goal.returns
unfolding placed
returns c = place_told _ _ _ (sym c.in-Some-bad_span.is ∙ c.bad_span.ensures) ∙ sym (ap (place_of _ _) c.in-Some.is)
