-- `block` takes zeros for links.
use Rattle.std.proofs.Common.{rules}
use Rattle.distinct.specs.Tree.{zeros_blank}
use Rattle.distinct.proofs.block.Goals as goal

pub block_with-requires : goal.block_with-requires
block_with-requires c = (c.requires, search rules, zeros_blank 256)

pub block_with-requires-then-field-lt1536 : goal.block_with-requires-then-field-lt1536
block_with-requires-then-field-lt1536 c = (c.requires, search rules, zeros_blank 2048)

pub block_with-requires-2 : goal.block_with-requires-2
block_with-requires-2 c = (c.requires, search rules, zeros_blank 5632)
