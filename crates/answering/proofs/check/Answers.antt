-- `check` refuses a policy by its length or its first line, and answers what is read of any other.
use Rattle.std.proofs.Common.{sym, ap, ◌∙◌}
use Rattle.reading.specs.Header.{headless}
use Rattle.reading.specs.Policy.{nothing, judge_line, read_policy}
use Rattle.walking.specs.TextLaws.{text_long}
use Rattle.answering.specs.declared.Answer.{Answer}
use Rattle.answering.proofs.Outcomes.{policy_refused}
use Rattle.answering.proofs.check.Goals as goal

pub returns-then-policy-gt32768 : goal.returns-then-policy-gt32768
unfolding read_policy
returns-then-policy-gt32768 c = sym (policy_refused _ _ (text_long judge_line 11 10 nothing _ c.if-policy-gt32768.true))

pub returns-then-not-begins_with : goal.returns-then-not-begins_with
returns-then-not-begins_with c = ap Answer.Refused c.in_policy.ensures ∙ sym (policy_refused _ _ (headless _ c.if-policy-gt32768.false (sym c.begins_with.ensures ∙ c.if-not-begins_with.true)))
