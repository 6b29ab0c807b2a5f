-- `rules_verdict` takes the verdict on the assign rules, and where it is accepted that on the revoke rules.
use Rattle.std.proofs.Common.{◌≡◌, ◌∙◌, sym, Err, arith, rules}
use Rattle.ledgers.specs.Ledger.{assign_rules, revoke_rules}
use Rattle.rules.specs.Tests.{assign_passes, revoke_passes}
use Rattle.sheets.specs.Words.{said_in}
use Rattle.reading.specs.Policy.{policy_of}
use Rattle.reading.specs.Ledger.{ledger_says}
use Rattle.judging.specs.Verdict.{first_assign, first_revoke, rules_said}
use Rattle.judging.specs.First.{verdict_by}
use Rattle.judging.specs.Order.{then_stops, then_goes}
use Rattle.judging.proofs.rules_verdict.Goals as goal

pub returns-in_err-first_failing : goal.returns-in_err-first_failing
unfolding rules_said first_assign policy_of ledger_says
returns-in_err-first_failing c = let told : c.from_residual.result ≡ Err c.in_err-first_failing.field-0.0 = grind arith in
    then_stops _ told (told ∙ sym c.in_err-first_failing.was ∙ verdict_by assign_rules (assign_passes (said_in c.args.sheet.now)) c.args.ledger.now c.first_failing.ensures (λ place answer here is. search rules))

pub returns : goal.returns
unfolding rules_said first_assign first_revoke policy_of ledger_says
returns c = then_goes c.in_ok-first_failing.was
    (verdict_by assign_rules (assign_passes (said_in c.args.sheet.now)) c.args.ledger.now c.first_failing.ensures (λ place answer here is. search rules))
    (verdict_by revoke_rules (revoke_passes (said_in c.args.sheet.now)) c.args.ledger.now c.first_failing-2.ensures (λ place answer here is. search rules))
