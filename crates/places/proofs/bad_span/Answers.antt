-- `bad_span` goes by the refusal.
use Rattle.std.proofs.Common.{◌∙◌}
use Rattle.places.specs.Place.{no_line}
use Rattle.places.specs.PlaceLaws.{bad_none, bad_policy, bad_evidence}
use Rattle.places.proofs.bad_span.Goals as goal

pub returns-then-r : goal.returns-then-r
unfolding no_line
returns-then-r c = bad_none _ _ _ c.if-r.true

pub returns-then-r-lt14 : goal.returns-then-r-lt14
unfolding no_line
returns-then-r-lt14 c = c.line_span.ensures ∙ bad_policy _ _ _ c.if-r.false c.if-r-lt14.true

pub returns : goal.returns
unfolding no_line
returns c = c.line_span-2.ensures ∙ bad_evidence _ _ _ c.if-r.false c.if-r-lt14.false
