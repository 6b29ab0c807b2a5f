-- Where merge answers success, the sum is accepted for both policies together, and no run of both reaches a goal of either.
use Rattle.std.specs.Prelude.{ℕ, true, List, ◌⊎◌, ◌≡◌}
use Rattle.std.proofs.Math.Path.{subst⁻¹}
use Rattle.model.specs.Policy.{State, joint, Run, Bad}
use Rattle.model.specs.Typing.{Typing, Accepted}
use Rattle.model.specs.Meaning.{meaning}
use Rattle.model.proofs.Sum as model
use Rattle.tables.specs.declared.Name.{Name}
use Rattle.walking.specs.Texts.{read}
use Rattle.reading.specs.Policy.{Said, policy_of, read_policy}
use Rattle.reading.specs.Sound.{read_sound}
use Rattle.typings.specs.TypingText.{Typed, read_typing, table_of}
use Rattle.rereading.specs.Fits.{Fits, fits_read}
use Rattle.summing.specs.Sums.{sum_of}
use Rattle.summing.specs.Outcome.{answer_in}
use Rattle.merging.specs.Merge.{merge_outcome}
use Rattle.composing.specs.MergeRules.{Passing, is_merged, MergeTexts}
use Rattle.composing.specs.RuleLaws.{merge_so}
use Rattle.composing.specs.MergeExact.{merge_success}
use Rattle.composing.specs.Summed.{sum_means}

-- The second typing fits the roles of policy one as well.
pub two_fits : (typing₂ : List ℕ) {s s' : Said} {t u : Typed} → read_typing s'.roles typing₂ ≡ read u → Passing s t s' u → Fits s.roles u
two_fits typing₂ {s' = s'} {u = u} typing_two pass = subst⁻¹ (λ (names : List Name). Fits names u) pass.directory.roles (fits_read s'.roles typing₂ typing_two)

-- Two policies with typings that pass all four judgings: the sum is accepted for both together.
pub sum_accepted : (policy₁ typing₁ typing₂ : List ℕ) {s s' : Said} {t u : Typed} → read_policy policy₁ ≡ read s → read_typing s.roles typing₁ ≡ read t → read_typing s'.roles typing₂ ≡ read u → Passing s t s' u
    → Accepted (meaning (sum_of (table_of t) (table_of u))) (joint (policy_of s) (policy_of s')) s.holdings
sum_accepted policy₁ typing₁ typing₂ {s} {s'} policy_one typing_one typing_two pass =
    let means = sum_means (fits_read s.roles typing₁ typing_one) (two_fits typing₂ typing_two pass) (read_sound policy₁ policy_one).roles.most in
    subst⁻¹ (λ (Γ : Typing). Accepted Γ (joint (policy_of s) (policy_of s')) s.holdings) means (model.sum_accepted pass.compatible)

module _ (policy₁ typing₁ policy₂ typing₂ : List ℕ) (room : ℕ) (success : is_merged (answer_in (merge_outcome policy₁ typing₁ policy₂ typing₂ room)) ≡ true) where
  -- The sum of the typings is accepted for the rules and goals of one followed by those of two.
  pub merge_accepted : MergeTexts policy₁ typing₁ policy₂ typing₂ (λ s t s' u. Accepted (meaning (sum_of (table_of t) (table_of u))) (joint (policy_of s) (policy_of s')) s.holdings)
  merge_accepted = merge_so policy₁ typing₁ policy₂ typing₂ (λ s t s' u one two three four holds. sum_accepted policy₁ typing₁ typing₂ one two four holds.0) (merge_success policy₁ typing₁ policy₂ typing₂ room success)

  -- So no run mixing both rule sets reaches any goal of either.
  pub merge_safe : MergeTexts policy₁ typing₁ policy₂ typing₂ (λ s t s' u. (τ : State) → Run (joint (policy_of s) (policy_of s')) s.holdings τ → Bad (policy_of s).goals τ ⊎ Bad (policy_of s').goals τ → ⊥)
  merge_safe =
      merge_so policy₁ typing₁ policy₂ typing₂ (λ s t s' u one two three four holds τ run bad. model.merge_safe holds.0.compatible run bad)
      (merge_success policy₁ typing₁ policy₂ typing₂ room success)
