-- `judge_rules` lays the typing out and takes the verdict by its sheet.
use Rattle.ledgers.specs.PartLaws.{rows_length}
use Rattle.reading.specs.Ledger.{ledger_says}
use Rattle.judging.specs.Verdict.{judged_rules, rules_verdict}
use Rattle.judging.proofs.judge_rules.Goals as goal

pub returns : goal.returns
unfolding rules_verdict judged_rules ledger_says
returns c = rw (rows_length, ← c.lay_out.ensures.sheet_after_2) c.rules_verdict.ensures
