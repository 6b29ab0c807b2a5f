-- `same_people` goes through the people that are counted; the invariant: those passed over are the same.
use Rattle.std.proofs.Common.{arith}
use Rattle.std.proofs.lemmas.Grind.{common_steps}
use Rattle.merging.specs.DirectoryLaws.{people_same, people_differ}
use Rattle.merging.proofs.directory.same_people.Goals as goal

pub returns-then-ne : goal.returns-then-ne
returns-then-ne c = people_differ _ _ c.loop-user-test.true (λ same. grind (arith, common_steps, same))

pub returns : goal.returns
returns c = people_same _ _ (λ user here. c.loop-user.invariant user (omega arith))
