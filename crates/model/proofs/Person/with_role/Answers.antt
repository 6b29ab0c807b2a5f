-- `with_role` sets the roles anew, by what its callees promise.
use Rattle.model.specs.Policy.{with_role}
use Rattle.model.proofs.Person.with_role.Goals as goal

pub returns : goal.returns
unfolding with_role
returns c = rw (c.with_roles.ensures, c.with.ensures)
