-- `check_line` shows the line of the answer to the two texts.
use Rattle.std.proofs.Common.{ap}
use Rattle.printing.specs.Line.{line_of, check_line}
use Rattle.showing.specs.Showing.{shows_as}
use Rattle.printing.proofs.check_line.Goals as goal

pub returns : goal.returns
unfolding check_line
returns c = let shown = shows_as c.args.out.now (ap line_of c.check.ensures) c.show_answer.ensures in record { value = shown.0; out_after = shown.1.0; upper_bound = shown.1.1 }
