-- `eight` joins the eight bytes.
use Rattle.std.proofs.Common.{arith}
use Rattle.tables.specs.NameLaws.{value-eight}
use Rattle.tables.proofs.eight.Goals as goal

pub returns : goal.returns
returns c = omega (arith, c.from_le_bytes.ensures, value-eight c.args.field.now c.args.at c.requires)
