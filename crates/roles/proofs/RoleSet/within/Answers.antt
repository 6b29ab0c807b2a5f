-- `within` asks whether the meeting is the set itself, by what its callees promise.
use Rattle.roles.specs.Sets.{includes, same_set}
use Rattle.roles.proofs.RoleSet.within.Goals as goal

pub returns : goal.returns
unfolding includes same_set
returns c = cc
