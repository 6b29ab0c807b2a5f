-- The four judgings of a merge over one directory: the verdict on each is exact.
use Rattle.std.specs.Prelude.{ℕ, List, ◌↔◌, ◌⊎◌, ◌≡◌, refl, length, Ok, Err}
use Rattle.std.proofs.Common.{inl, inr, subst}
use Rattle.std.proofs.Math.Path.{ap}
use Rattle.tables.specs.declared.Name.{Name}
use Rattle.model.specs.declared.Typing.{Typing as Table}
use Rattle.model.specs.Sized.{SizedPolicy}
use Rattle.model.specs.Typing.{closure, RulesPass, Accepted}
use Rattle.model.specs.Meaning.{meaning}
use Rattle.rules.specs.RuleExact.{Laid}
use Rattle.walking.specs.Texts.{read}
use Rattle.reading.specs.Policy.{Said, policy_of, read_policy}
use Rattle.typings.specs.TypingText.{Typed, read_typing, table_of}
use Rattle.judging.specs.declared.Part.{Part}
use Rattle.judging.specs.Verdict.{TypingVerdict, accepted, unproved, typing_verdict, rules_verdict}
use Rattle.judging.specs.TypingVerdictExact.{typing_accepted, rules_accepted, unproved_first, rules_first}
use Rattle.judging.specs.Failures.{FirstRule, FirstFailure}
use Rattle.verdicts.specs.PolicySized.{read_sized}
use Rattle.verdicts.specs.Verdicts.{texts_laid}
use Rattle.summing.specs.Outcome.{Outcome, leaves}
use Rattle.merging.specs.declared.MergeAnswer.{MergeAnswer}
use Rattle.merging.specs.Merge.{merge_unproved, when_accepted}

-- A typing is accepted on a policy, and its first failure there.
abbrev pub OnPolicy : Said → Table → Type 0
OnPolicy s t = Accepted (meaning t) (policy_of s) s.holdings

abbrev pub FailsOnPolicy : Said → Table → Part → ℕ → Type 0
FailsOnPolicy s t = FirstFailure (meaning t) (policy_of s) s.holdings

-- A typing passes on the rules of a policy alone, and its first failure there.
abbrev pub OnRules : Said → Table → Type 0
OnRules s t = RulesPass closure (meaning t) (policy_of s)

abbrev pub FailsOnRules : Said → Table → Part → ℕ → Type 0
FailsOnRules s t = FirstRule (meaning t) (policy_of s)

-- A verdict is accepted exactly where so much passes, and a failure exactly where that is the first.
pub record Judging (verdict : TypingVerdict) (Passes : Type 0) (Fails : Part → ℕ → Type 0) : Type 0 where
  pub passes : verdict ≡ accepted ↔ Passes
  pub fails : (part : Part) (number : ℕ) → verdict ≡ unproved part number ↔ Fails part number

-- There is a first failure.
abbrev pub Failing : (Part → ℕ → Type 0) → Type 0
Failing Fails = (part : Part) × (number : ℕ) × Fails part number

module _ {verdict : TypingVerdict} {Passes : Type 0} {Fails : Part → ℕ → Type 0} (judging : Judging verdict Passes Fails) where
  -- It passes, or there is a first failure.
  pub judged : Passes ⊎ Failing Fails
  judged = go verdict refl
    where
      go : (v : TypingVerdict) → verdict ≡ v → Passes ⊎ Failing Fails
      go (Ok _) is = inl (judging.passes.0 is)
      go (Err failure) is = inr (failure.part, failure.number, (judging.fails failure.part failure.number).0 is)

  -- Where it passes the merge goes on,
  pub passed : (which : ℕ) (next : Outcome MergeAnswer) → Passes → when_accepted which verdict next ≡ next
  unfolding when_accepted
  passed which next pass = ap (λ (v : TypingVerdict). when_accepted which v next) (judging.passes.1 pass)

  -- and the first failure is the answer.
  pub failed : (which : ℕ) {number : ℕ} {part : Part} (next : Outcome MergeAnswer) → Fails part number → when_accepted which verdict next ≡ leaves (merge_unproved which part number)
  unfolding when_accepted
  failed which {number} {part} next fail = ap (λ (v : TypingVerdict). when_accepted which v next) ((judging.fails part number).1 fail)

-- the verdict of a typing on a policy, and on its rules alone
whole : (s : Said) {t : Table} → SizedPolicy (policy_of s) → Laid t (length s.roles) → Judging (typing_verdict s t) (OnPolicy s t) (FailsOnPolicy s t)
whole s sized laid = record { passes = typing_accepted s sized laid; fails = unproved_first s sized laid }

rules : (s : Said) {t : Table} → SizedPolicy (policy_of s) → Laid t (length s.roles) → Judging (rules_verdict s t) (OnRules s t) (FailsOnRules s t)
rules s sized laid = record { passes = rules_accepted s sized laid; fails = rules_first s sized laid }

module _ (policy typing : List ℕ) {s : Said} {t : Typed} (reads : read_policy policy ≡ read s) (over : read_typing s.roles typing ≡ read t) where
  -- A typing that is read over a policy is judged exactly on it,
  pub on_own : Judging (typing_verdict s (table_of t)) (OnPolicy s (table_of t)) (FailsOnPolicy s (table_of t))
  on_own = whole s (read_sized policy reads) (texts_laid policy typing reads over)

  -- and on the rules of another over the same roles.
  pub on_other : (other : List ℕ) {s' : Said} → read_policy other ≡ read s' → s.roles ≡ s'.roles
      → Judging (rules_verdict s' (table_of t)) (OnRules s' (table_of t)) (FailsOnRules s' (table_of t))
  on_other other {s'} other-reads same = rules s' (read_sized other other-reads) (subst (λ (names : List Name). Laid (table_of t) (length names)) same (texts_laid policy typing reads over))
