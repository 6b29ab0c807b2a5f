-- The verdict on a policy text and a typing text over its roles is exact.
use Rattle.std.specs.Prelude.{ℕ, List, ◌↔◌, ◌≡◌, length}
use Rattle.model.specs.Typing.{Accepted}
use Rattle.model.specs.Meaning.{meaning}
use Rattle.rules.specs.RuleExact.{Laid}
use Rattle.walking.specs.Texts.{read}
use Rattle.reading.specs.Policy.{Said, policy_of, read_policy}
use Rattle.reading.specs.Sound.{read_sound}
use Rattle.typings.specs.TypingText.{Typed, read_typing, table_of}
use Rattle.judging.specs.Verdict.{accepted, typing_verdict}
use Rattle.judging.specs.TypingVerdictExact.{typing_accepted}
use Rattle.verdicts.specs.PolicySized.{read_sized}
use Rattle.verdicts.specs.TypingLaid.{read_laid}

-- A typing text that is read over the roles of a policy text that is read is laid out over them.
pub texts_laid : (policy typing : List ℕ) {s : Said} {t : Typed} → read_policy policy ≡ read s → read_typing s.roles typing ≡ read t → Laid (table_of t) (length s.roles)
texts_laid policy typing {s} is over = read_laid s.roles typing over (read_sound policy is).roles.most

-- The verdict is accepted exactly when the typing is accepted.
pub safe_exact : (policy typing : List ℕ) {s : Said} {t : Typed} → read_policy policy ≡ read s → read_typing s.roles typing ≡ read t
    → typing_verdict s (table_of t) ≡ accepted ↔ Accepted (meaning (table_of t)) (policy_of s) s.holdings
safe_exact policy typing {s} is over = typing_accepted s (read_sized policy is) (texts_laid policy typing is over)
