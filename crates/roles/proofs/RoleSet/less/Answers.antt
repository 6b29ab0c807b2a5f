-- `less` takes the meeting away, by what its callee promises.
use Rattle.roles.specs.Sets.{apart_of, less_of}
use Rattle.roles.proofs.RoleSet.less.Goals as goal

pub returns : goal.returns
unfolding apart_of less_of
returns c = cc
