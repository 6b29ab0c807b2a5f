-- `without` takes a set of one away, by what its callees promise.
use Rattle.roles.specs.Sets.{without_of}
use Rattle.roles.proofs.RoleSet.without.Goals as goal

pub returns : goal.returns
unfolding without_of
returns c = cc
