-- `none` has no line of any kind.
use Rattle.std.proofs.Common.{refl}
use Rattle.reading.specs.Policy.{nothing, counts_of}
use Rattle.reading.proofs.none.Goals as goal

pub returns : goal.returns
unfolding counts_of nothing
returns c = refl
