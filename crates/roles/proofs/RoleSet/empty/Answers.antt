-- `empty` is the written empty set.
use Rattle.std.proofs.Common.{refl}
use Rattle.roles.specs.Sets.{empty_set}
use Rattle.roles.proofs.RoleSet.empty.Goals as goal

pub returns : goal.returns
unfolding empty_set
returns c = refl
