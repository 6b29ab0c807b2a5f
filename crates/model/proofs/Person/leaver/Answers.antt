-- `leaver` holds the empty set.
use Rattle.model.specs.Policy.{leaver}
use Rattle.model.proofs.Person.leaver.Goals as goal

pub returns : goal.returns
unfolding leaver
returns c = rw c.empty.ensures
