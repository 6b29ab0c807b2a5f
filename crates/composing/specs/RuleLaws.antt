-- What follows from what holds of the texts that are summed or merged.
use Rattle.std.specs.Prelude.{ℕ, List, ◌≡◌}
use Rattle.walking.specs.Texts.{read}
use Rattle.reading.specs.Policy.{Said, read_policy}
use Rattle.typings.specs.TypingText.{Typed, read_typing}
use Rattle.composing.specs.SumRules.{SumTexts, sum_texts}
use Rattle.composing.specs.MergeRules.{MergeTexts, merge_texts}

module _ (policy first second : List ℕ) where
  -- what follows from what holds
  pub sum_so : {A B : Said → Typed → Typed → Type 0} → ((s : Said) (t u : Typed) → read_policy policy ≡ read s → read_typing s.roles first ≡ read t → read_typing s.roles second ≡ read u → A s t u → B s t u)
      → SumTexts policy first second A → SumTexts policy first second B
  sum_so so texts =
      sum_texts policy first second texts.policy_read texts.first_read texts.second_read (so texts.said texts.one texts.two texts.policy_read texts.first_read texts.second_read texts.holds)

module _ (policy₁ typing₁ policy₂ typing₂ : List ℕ) where
  -- what follows from what holds
  pub merge_so : {A B : Said → Typed → Said → Typed → Type 0}
      → ((s : Said) (t : Typed) (s' : Said) (u : Typed) → read_policy policy₁ ≡ read s → read_typing s.roles typing₁ ≡ read t → read_policy policy₂ ≡ read s' → read_typing s'.roles typing₂ ≡ read u → A s t s' u → B s t s' u)
      → MergeTexts policy₁ typing₁ policy₂ typing₂ A → MergeTexts policy₁ typing₁ policy₂ typing₂ B
  merge_so so texts =
      merge_texts policy₁ typing₁ policy₂ typing₂ texts.policy_one texts.typing_one texts.policy_two texts.typing_two
      (so texts.said₁ texts.typed₁ texts.said₂ texts.typed₂ texts.policy_one texts.typing_one texts.policy_two texts.typing_two texts.holds)
