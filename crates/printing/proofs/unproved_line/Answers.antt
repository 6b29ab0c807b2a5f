-- `unproved_line` ends what `begin_unproved` begins.
use Rattle.std.proofs.Common.{arith}
use Rattle.showing.specs.Steps.{line_on}
use Rattle.printing.proofs.unproved_line.Goals as goal

pub returns : goal.returns
returns c = line_on c.begin_unproved-at.ensures c.end_line.ensures (omega (arith, c.requires))
