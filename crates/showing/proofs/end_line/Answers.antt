-- `end_line` puts the LF.
use Rattle.showing.specs.Steps.{goes_end}
use Rattle.showing.proofs.end_line.Goals as goal

pub returns : goal.returns
returns c = goes_end
