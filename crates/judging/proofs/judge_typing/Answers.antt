-- `judge_typing` takes the verdict on the holdings, where it is accepted that on the rules, and where it is accepted that on the goals.
use Rattle.std.proofs.Common.{◌≡◌, ◌∙◌, sym, Err, rules, arith}
use Rattle.ledgers.specs.PartLaws.{rows_length}
use Rattle.ledgers.specs.Ledger.{people, goal_sets}
use Rattle.rules.specs.Tests.{person_passes, goal_passes}
use Rattle.sheets.specs.Words.{said_in}
use Rattle.reading.specs.Policy.{policy_of}
use Rattle.reading.specs.Ledger.{ledger_says}
use Rattle.judging.specs.Verdict.{subject_of, first_holding, first_goal, all_said, judged_typing, typing_verdict}
use Rattle.judging.specs.First.{verdict_by}
use Rattle.judging.specs.Order.{then_stops, then_goes}
use Rattle.judging.proofs.judge_typing.Goals as goal

pub returns-in_err-first_failing : goal.returns-in_err-first_failing
unfolding typing_verdict judged_typing subject_of ledger_says all_said first_holding
returns-in_err-first_failing c = let told : c.from_residual.result ≡ Err c.in_err-first_failing.field-0.0 = grind arith in
    rw (rows_length, ← c.lay_out.ensures.sheet_after_2)
    (then_stops _ told (told ∙ sym c.in_err-first_failing.was ∙ verdict_by people (person_passes (said_in c.lay_out.new.sheet)) c.args.ledger.now c.first_failing.ensures (λ place answer here is. search rules)))

pub returns-in_err-rules_verdict : goal.returns-in_err-rules_verdict
unfolding typing_verdict judged_typing subject_of ledger_says all_said first_holding
returns-in_err-rules_verdict c = let told : c.from_residual-in_err-rules_verdict.result ≡ Err c.in_err-rules_verdict.field-0.0 = grind arith in
    rw (rows_length, ← c.lay_out.ensures.sheet_after_2)
    (then_goes c.in_ok-first_failing.was (verdict_by people (person_passes (said_in c.lay_out.new.sheet)) c.args.ledger.now c.first_failing.ensures (λ place answer here is. search rules))
    (then_stops _ told (told ∙ sym c.in_err-rules_verdict.was ∙ c.rules_verdict.ensures)))

pub returns : goal.returns
unfolding typing_verdict judged_typing subject_of policy_of ledger_says all_said first_holding first_goal
returns c = rw (rows_length, ← c.lay_out.ensures.sheet_after_2)
    (then_goes c.in_ok-first_failing.was (verdict_by people (person_passes (said_in c.lay_out.new.sheet)) c.args.ledger.now c.first_failing.ensures (λ place answer here is. search rules))
    (then_goes c.in_ok-rules_verdict.was c.rules_verdict.ensures
    (verdict_by goal_sets (goal_passes (said_in c.lay_out.new.sheet)) c.args.ledger.now c.first_failing-2.ensures (λ place answer here is. search rules))))
