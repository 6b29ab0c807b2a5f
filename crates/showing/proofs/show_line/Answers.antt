-- `show_line` copies a line where there is room for it.
use Rattle.showing.specs.Showing.{too_short, fits}
use Rattle.showing.proofs.show_line.Goals as goal

pub returns-then-out-line : goal.returns-then-out-line
returns-then-out-line c = too_short _ _ c.if-out-line.true

pub returns : goal.returns
returns c = fits _ _ c.if-out-line.false c.write_bytes.ensures
