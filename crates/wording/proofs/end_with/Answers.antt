-- `end_with` puts the LF past the field.
use Rattle.showing.specs.Steps.{goes_both}
use Rattle.wording.proofs.end_with.Goals as goal

pub returns : goal.returns
returns c = goes_both c.mention_field-last.ensures c.end_line.ensures
