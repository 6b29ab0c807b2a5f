-- `bad_line` is the part at the place of the refusal of the two texts.
use Rattle.places.specs.Place.{bad_line}
use Rattle.places.proofs.bad_line.Goals as goal

pub returns-clause-result_value : goal.returns-clause-result_value
unfolding bad_line
returns-clause-result_value c = rw c.refusal_of.ensures at c.line_of.ensures.result_value
