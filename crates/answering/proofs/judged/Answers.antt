-- `judged` goes by the verdict.
use Rattle.answering.proofs.Laws.{judged_safe, judged_fails}
use Rattle.answering.proofs.judged.Goals as goal

pub returns-in-Ok : goal.returns-in-Ok
returns-in-Ok c = judged_safe _ _ c.in-Ok.is c.pinned.ensures

pub returns-in-Err : goal.returns-in-Err
returns-in-Err c = judged_fails _ _ c.in-Err.is
