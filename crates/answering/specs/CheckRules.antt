-- When each answer of `check` is given, in the words of document 01, "Verdicts and refusal numbers", and of document 02, CR 2.
use Rattle.std.specs.Prelude.{ℕ, ◌≤◌, true, false, List, ◌⊎◌, ◌≡◌, length}
use Rattle.model.specs.Typing.{Accepted}
use Rattle.model.specs.Meaning.{meaning}
use Rattle.walking.specs.Texts.{read}
use Rattle.reading.specs.Policy.{Said, policy_of, read_policy}
use Rattle.reading.specs.PolicyRefusals.{PolicyRefusal}
use Rattle.typings.specs.TypingText.{Typed, read_typing, table_of}
use Rattle.typings.specs.TypingRefusals.{TypingRefusal}
use Rattle.traces.specs.TraceRefusals.{TraceRefusal}
use Rattle.typings.specs.Kind.{is_typing}
use Rattle.judging.specs.Verdict.{pinned_names}
use Rattle.model.specs.Policy.{State, Run, Bad}

-- Both texts are read, the evidence as a typing, and so much holds of them.
pub record TypingTexts (policy evidence : List ℕ) (Holds : Said → Typed → Type 0) : Type 0 where
  pub said : Said
  pub typing : Typed
  pub reads : read_policy policy ≡ read said
  pub over : read_typing said.roles evidence ≡ read typing
  pub holds : Holds said typing

-- The policy is read, and so much holds of it and of the evidence as a trace over it.
pub record TraceTexts (policy : List ℕ) (Holds : Said → Type 0) : Type 0 where
  pub said : Said
  pub reads : read_policy policy ≡ read said
  pub holds : Holds said

-- SAFE: the typing is accepted; counts of roles, assign, revoke, goals; pinned.
pub record Safe (roles assigns revokes goals pinned : ℕ) (s : Said) (t : Typed) : Type 0 where
  pub accepted : Accepted (meaning (table_of t)) (policy_of s) s.holdings
  pub roles_counted : roles ≡ length s.roles
  pub assigns_counted : assigns ≡ length s.assigns
  pub revokes_counted : revokes ≡ length s.revokes
  pub goals_counted : goals ≡ length s.goals
  pub pinned_counted : pinned ≡ pinned_names (table_of t) (length s.roles)

-- A refusal: the policy has it; or the policy is read, the evidence is a typing by its first line and has it; or the policy is
-- read, the evidence is none, and it has it as a trace.
pub data Refused (policy evidence : List ℕ) : (number line : ℕ) → Type 0 where
  of_policy : {k n : ℕ} → PolicyRefusal policy k n → Refused policy evidence k n
  of_typing : {k n : ℕ} {s : Said} → read_policy policy ≡ read s → is_typing evidence ≡ true → TypingRefusal s.roles evidence k n → Refused policy evidence k n
  of_trace : {k n : ℕ} {s : Said} → read_policy policy ≡ read s → is_typing evidence ≡ false → TraceRefusal (length s.assigns) (length s.revokes) s.users evidence k n → Refused policy evidence k n

-- The number of a text's refusal: from 10 to 16, or 21.
pub record TextNumber (k : ℕ) : Type 0 where
  pub least : 10 ≤ k
  pub listed : (k ≤ 16) ⊎ (k ≡ 21)

-- The policy text is read, and the policy that it says has a run from its holdings to a bad state.
pub record BadRun (policy : List ℕ) : Type 0 where
  pub said : Said
  pub reads : read_policy policy ≡ read said
  pub last : State
  pub run : Run (policy_of said) said.holdings last
  pub bad : Bad (policy_of said).goals last
