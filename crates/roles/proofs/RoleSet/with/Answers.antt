-- `with` is the union with a set of one, by what its callees promise.
use Rattle.roles.specs.Sets.{with_of}
use Rattle.roles.proofs.RoleSet.with.Goals as goal

pub returns : goal.returns
unfolding with_of
returns c = cc
