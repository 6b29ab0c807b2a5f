-- `shares` asks whether the meeting is the empty set, by what its callees promise.
use Rattle.roles.specs.Sets.{shares_role, same_set}
use Rattle.roles.proofs.RoleSet.shares.Goals as goal

pub returns : goal.returns
unfolding shares_role same_set
returns c = cc
