-- `write_fitting` compares the length of the text with the room and the limit, and writes where it fits.
use Rattle.std.proofs.Common.{arith}
use Rattle.summing.specs.Meeting.{fitting_room, fitting_most, fitting_written}
use Rattle.summing.proofs.fitting.write_fitting.Goals as goal

pub returns-then-out-length : goal.returns-then-out-length
returns-then-out-length c = fitting_room _ _ (omega (arith, c.text_length-length.ensures))

pub returns-then-length-gt32768 : goal.returns-then-length-gt32768
returns-then-length-gt32768 c = fitting_most _ _ (omega (arith, c.text_length-length.ensures))

pub returns : goal.returns
returns c = fitting_written _ _ (omega (arith, c.text_length-length.ensures, c.if-out-length.false)) (omega (arith, c.text_length-length.ensures, c.if-length-gt32768.false)) c.write_typing.ensures
