-- `symbol_at` reads the byte inside the field, and past it gives the comma that `symbol` has there.
use Rattle.std.proofs.Common.{rules}
use Rattle.distinct.specs.Names.{symbol}
use Rattle.distinct.proofs.symbol_at.Goals as goal

pub returns : goal.returns
unfolding symbol
returns c = search rules
