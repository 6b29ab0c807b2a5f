-- `bad_typing_line` is the part at the place of the refusal of a text where a typing is wanted.
use Rattle.places.specs.Place.{bad_typing_line}
use Rattle.places.proofs.bad_typing_line.Goals as goal

pub returns-clause-result_value : goal.returns-clause-result_value
unfolding bad_typing_line
returns-clause-result_value c = rw c.typing_refusal_of.ensures at c.line_of.ensures.result_value
