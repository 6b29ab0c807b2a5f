-- `number_line` ends what `begin_line` begins.
use Rattle.showing.specs.Steps.{line_on}
use Rattle.showing.proofs.number_line.Goals as goal

pub returns : goal.returns
returns c = line_on c.begin_line-at.ensures c.end_line.ensures c.requires.1
