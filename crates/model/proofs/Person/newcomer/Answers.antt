-- `newcomer` holds the empty set.
use Rattle.model.specs.Policy.{newcomer}
use Rattle.model.proofs.Person.newcomer.Goals as goal

pub returns : goal.returns
unfolding newcomer
returns c = rw c.empty.ensures
