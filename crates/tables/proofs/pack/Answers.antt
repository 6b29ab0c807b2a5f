-- `pack` packs the four words, one after the other.
use Rattle.tables.specs.Names.{packed}
use Rattle.tables.proofs.pack.Goals as goal

pub returns : goal.returns
unfolding packed
returns c = cc
