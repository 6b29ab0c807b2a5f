-- `write_line` puts the line into the rest of the buffer.
use Rattle.inscribing.specs.Adding.{adds_piece}
use Rattle.inscribing.proofs.write_line.Goals as goal

pub returns : goal.returns
returns c = adds_piece c.put_line.ensures
