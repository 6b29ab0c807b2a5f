-- `eight_in_name` tests the eight bytes.
use Rattle.std.proofs.Common.{rules}
use Rattle.text.specs.Eights.{every-eight}
use Rattle.text.specs.Forms.{name_byte}
use Rattle.text.proofs.eight_in_name.Goals as goal

pub returns : goal.returns
returns c = cc (every-eight name_byte c.args.field.now c.args.at (search rules))
