-- `without_role` sets the roles anew, by what its callees promise.
use Rattle.model.specs.Policy.{without_role}
use Rattle.model.proofs.Person.without_role.Goals as goal

pub returns : goal.returns
unfolding without_role
returns c = rw (c.with_roles.ensures, c.without.ensures)
