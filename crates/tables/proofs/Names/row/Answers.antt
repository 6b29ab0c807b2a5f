-- `row` reads the four words of a name where it stands in the table.
use Rattle.std.proofs.Common.{get_or-drop, add-zero}
use Rattle.tables.specs.Names.{row_of}
use Rattle.tables.proofs.Names.row.Goals as goal

pub returns : goal.returns
unfolding row_of
returns c = simp (get_or-drop, add-zero)
