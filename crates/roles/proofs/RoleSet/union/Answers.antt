-- `union` is the union, word by word.
use Rattle.std.proofs.Common.{refl}
use Rattle.roles.specs.Sets.{union_of}
use Rattle.roles.proofs.RoleSet.union.Goals as goal

pub returns : goal.returns
unfolding union_of
returns c = refl
