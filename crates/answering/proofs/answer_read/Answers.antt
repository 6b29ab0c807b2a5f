-- `answer_read` hands a refusal on, and where the policy is read, answers the evidence by its kind.
use Rattle.std.proofs.Common.{Err, ◌≡◌, refl, sym, ◌∙◌, arith, rules}
use Rattle.reading.specs.Told.{told, untold}
use Rattle.answering.specs.Answers.{answered, trace_answer}
use Rattle.answering.proofs.Laws.{over_typing, over_trace}
use Rattle.answering.proofs.Outcomes.{policy_refused}
use Rattle.answering.proofs.answer_read.Goals as goal

pub returns-in_err-c : goal.returns-in_err-c
unfolding answered
returns-in_err-c c = let same : c.from_residual.result ≡ Err c.in_err-c.field-0.0 = search rules in rw same (sym (policy_refused _ _ (untold c.in_err-c.ensures refl)))

pub typing_answer-requires : goal.typing_answer-requires
typing_answer-requires c = (omega arith, (told c.in_ok-c.ensures refl).limited)

pub returns-then-is_typing : goal.returns-then-is_typing
returns-then-is_typing c = over_typing _ _ (told c.in_ok-c.ensures refl) (sym c.is_typing.ensures ∙ c.if-is_typing.true) c.typing_answer.ensures

pub run_trace-requires : goal.run_trace-requires
run_trace-requires c = (omega arith, (told c.in_ok-c.ensures refl).limited)

pub returns-in_err-verdict : goal.returns-in_err-verdict
unfolding answered trace_answer
returns-in_err-verdict c = let same : c.from_residual-in_err-verdict.result ≡ Err c.in_err-verdict.field-0.0 = search rules in
    rw same (over_trace _ _ (told c.in_ok-c.ensures refl) (sym c.is_typing.ensures ∙ c.if-is_typing.false) c.in_err-verdict.ensures)

pub returns : goal.returns
unfolding answered trace_answer
returns c = c.traced.ensures ∙ over_trace _ _ (told c.in_ok-c.ensures refl) (sym c.is_typing.ensures ∙ c.if-is_typing.false) c.in_ok-verdict.ensures
