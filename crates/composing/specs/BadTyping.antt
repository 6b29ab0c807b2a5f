-- A refusal of sum or merge is that of a policy and a text where a typing is wanted, so that its bad line can be asked for.
use Rattle.std.specs.Prelude.{ℕ, Some, List, ◌≡◌}
use Rattle.judging.specs.declared.Part.{Part}
use Rattle.places.specs.Place.{typing_refusal_of}
use Rattle.summing.specs.Sum.{SumAnswer, sum_made, sum_refused}
use Rattle.merging.specs.declared.MergeAnswer.{MergeAnswer}
use Rattle.merging.specs.Merge.{merge_unproved, merge_refused}

-- A policy and a text where a typing is wanted are refused with that number at that line.
pub record TypingRefused (policy typing : List ℕ) (number line : ℕ) : Type 0 where
  pub is : typing_refusal_of policy typing ≡ Some (record { number = number; line = line })

-- Which texts a refusal of sum is found again from: the policy and the typing that it speaks of; of the policy, with either typing.
pub data SumBad (policy first second : List ℕ) : SumAnswer → Type 0 where
  of_policy : {number line : ℕ} → TypingRefused policy first number line → TypingRefused policy second number line → SumBad policy first second (sum_refused 1 number line)
  of_first : {number line : ℕ} → TypingRefused policy first number line → SumBad policy first second (sum_refused 2 number line)
  of_second : {number line : ℕ} → TypingRefused policy second number line → SumBad policy first second (sum_refused 3 number line)
  of_none : {number : ℕ} → SumBad policy first second (sum_refused 0 number 0)
  success : {pinned written : ℕ} → SumBad policy first second (sum_made pinned written)

-- The same of merge: each policy with its own typing.
pub data MergeBad (policy₁ typing₁ policy₂ typing₂ : List ℕ) : MergeAnswer → Type 0 where
  of_policy_one : {number line : ℕ} → TypingRefused policy₁ typing₁ number line → MergeBad policy₁ typing₁ policy₂ typing₂ (merge_refused 1 number line)
  of_typing_one : {number line : ℕ} → TypingRefused policy₁ typing₁ number line → MergeBad policy₁ typing₁ policy₂ typing₂ (merge_refused 2 number line)
  of_policy_two : {number line : ℕ} → TypingRefused policy₂ typing₂ number line → MergeBad policy₁ typing₁ policy₂ typing₂ (merge_refused 3 number line)
  of_typing_two : {number line : ℕ} → TypingRefused policy₂ typing₂ number line → MergeBad policy₁ typing₁ policy₂ typing₂ (merge_refused 4 number line)
  of_none : {number : ℕ} → MergeBad policy₁ typing₁ policy₂ typing₂ (merge_refused 0 number 0)
  unproved : {which number : ℕ} {part : Part} → MergeBad policy₁ typing₁ policy₂ typing₂ (merge_unproved which part number)
  success : {roles assigns revokes goals pinned written : ℕ} → MergeBad policy₁ typing₁ policy₂ typing₂ (MergeAnswer.Merged roles assigns revokes goals pinned written)
