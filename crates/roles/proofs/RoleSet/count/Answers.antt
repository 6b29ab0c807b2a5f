-- `count` adds two counts of at most 64 ones each, so the sum fits.
use Rattle.std.proofs.Common.{refl}
use Rattle.roles.specs.Sets.{size_of}
use Rattle.roles.proofs.RoleSet.count.Goals as goal

pub returns : goal.returns
unfolding size_of
returns c = refl
