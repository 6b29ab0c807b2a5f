-- `write_piece` puts the bytes into the rest of the buffer.
use Rattle.inscribing.specs.Adding.{adds_piece}
use Rattle.inscribing.proofs.write_piece.Goals as goal

pub returns : goal.returns
returns c = adds_piece c.write_bytes.ensures
