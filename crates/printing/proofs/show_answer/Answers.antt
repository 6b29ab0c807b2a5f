-- `show_answer` makes the line apart and shows it.
use Rattle.std.proofs.Common.{arith}
use Rattle.showing.specs.Steps.{taken, taken_length}
use Rattle.showing.specs.Showing.{shows_as}
use Rattle.printing.proofs.show_answer.Goals as goal

pub slice_bounds-line-end : goal.slice_bounds-line-end
slice_bounds-line-end c = omega (arith, c.write_line-length.ensures.few)

pub slice_bounds-show_line-end : goal.slice_bounds-show_line-end
slice_bounds-show_line-end c = taken_length c.write_line-length.ensures

pub returns : goal.returns
returns c = shows_as c.args.out.now (taken c.write_line-length.ensures) c.show_line.ensures
