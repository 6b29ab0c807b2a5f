-- `answer_with` answers what is answered where both texts are read, or the refusal.
use Rattle.answering.specs.Answers.{answered}
use Rattle.answering.proofs.answer_with.Goals as goal

pub returns-in-Ok : goal.returns-in-Ok
unfolding answered
returns-in-Ok c = c.in-Ok.ensures

pub returns-in-Err : goal.returns-in-Err
unfolding answered
returns-in-Err c = c.in-Err.ensures
