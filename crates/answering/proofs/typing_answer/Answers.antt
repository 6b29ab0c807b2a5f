-- `typing_answer` hands a refusal on, and judges a typing that is read.
use Rattle.std.proofs.Common.{ap, ◌∙◌}
use Rattle.judging.specs.Verdict.{typing_verdict}
use Rattle.answering.specs.Answers.{judged_answer, answered}
use Rattle.answering.proofs.Laws.{typing_refused, typing_judged}
use Rattle.answering.proofs.typing_answer.Goals as goal

pub returns-in-Err : goal.returns-in-Err
unfolding answered
returns-in-Err c = typing_refused _ _ _ _ c.in-Err.ensures

pub returns-in-Ok : goal.returns-in-Ok
unfolding typing_verdict answered
returns-in-Ok c = c.judged.ensures ∙ ap (judged_answer _ _) c.judge_typing.ensures ∙ typing_judged _ _ _ _ c.in-Ok.ensures
