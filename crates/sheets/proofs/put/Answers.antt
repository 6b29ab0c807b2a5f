-- `put` writes the two words where the role's set stands.
use Rattle.std.proofs.Common.{arith}
use Rattle.sheets.specs.Words.{place_of}
use Rattle.sheets.specs.Places.{put-changed}
use Rattle.sheets.proofs.put.Goals as goal

pub returns : goal.returns
unfolding place_of
returns c = rw c.column_number.ensures.value (put-changed c.args.sheet.now c.args.column c.args.role c.args.set (omega arith))
