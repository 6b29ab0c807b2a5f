-- A refusal of a typing by sum or merge is found again by the bad line.
use Rattle.std.specs.Prelude.{ℕ, true, List, ◌≡◌, refl}
use Rattle.std.proofs.Common.{sym}
use Rattle.walking.specs.Texts.{read, refused}
use Rattle.reading.specs.Policy.{Said, read_policy}
use Rattle.typings.specs.TypingText.{read_typing}
use Rattle.places.specs.PlaceLaws.{after_refused, typing_refused}
use Rattle.summing.specs.Outcome.{Outcome, answer_in}
use Rattle.summing.specs.Sum.{SumAnswer, sum_outcome}
use Rattle.merging.specs.declared.MergeAnswer.{MergeAnswer}
use Rattle.merging.specs.Merge.{merge_outcome}
use Rattle.composing.specs.SumRules.{summed, Sums}
use Rattle.composing.specs.MergeRules.{merged, Merges}
use Rattle.composing.specs.SumExact.{sum_exact}
use Rattle.composing.specs.MergeExact.{merge_exact}
use Rattle.composing.specs.BadTyping.{MergeBad, SumBad, TypingRefused}

-- a policy that is refused is so with any typing
with_any : {policy : List ℕ} (typing : List ℕ) {number line : ℕ} → read_policy policy ≡ refused number line → TypingRefused policy typing number line
with_any {policy} typing reads = record { is = sym (after_refused true policy typing reads) }

-- a typing that is refused over a policy's roles
over_roles : {policy typing : List ℕ} {s : Said} {number line : ℕ} → read_policy policy ≡ read s → read_typing s.roles typing ≡ refused number line → TypingRefused policy typing number line
over_roles {policy} {typing} reads is = record { is = typing_refused policy typing reads is }

-- A refusal of sum that speaks of a text is that of the policy and a typing.
pub sum_bad : (policy first second : List ℕ) (room : ℕ) → SumBad policy first second (answer_in (sum_outcome policy first second room))
unfolding answer_in summed
sum_bad policy first second room = go ((sum_exact policy first second room (sum_outcome policy first second room)).0 refl)
  where
    go : {outcome : Outcome SumAnswer} → Sums policy first second room outcome → SumBad policy first second (answer_in outcome)
    go (Sums.no_policy reads) = SumBad.of_policy (with_any first reads) (with_any second reads)
    go (Sums.no_first reads one) = SumBad.of_first (over_roles reads one)
    go (Sums.no_second reads one two) = SumBad.of_second (over_roles reads two)
    go (Sums.long texts) = SumBad.of_none
    go (Sums.fitting texts) = SumBad.success

-- A refusal of merge that speaks of a text is that of its policy and its typing.
pub merge_bad : (policy₁ typing₁ policy₂ typing₂ : List ℕ) (room : ℕ) → MergeBad policy₁ typing₁ policy₂ typing₂ (answer_in (merge_outcome policy₁ typing₁ policy₂ typing₂ room))
unfolding answer_in merged
merge_bad policy₁ typing₁ policy₂ typing₂ room = go ((merge_exact policy₁ typing₁ policy₂ typing₂ room (merge_outcome policy₁ typing₁ policy₂ typing₂ room)).0 refl)
  where
    go : {outcome : Outcome MergeAnswer} → Merges policy₁ typing₁ policy₂ typing₂ room outcome → MergeBad policy₁ typing₁ policy₂ typing₂ (answer_in outcome)
    go (Merges.no_policy_one reads) = MergeBad.of_policy_one (with_any typing₁ reads)
    go (Merges.no_typing_one reads one) = MergeBad.of_typing_one (over_roles reads one)
    go (Merges.no_policy_two reads one two) = MergeBad.of_policy_two (with_any typing₂ two)
    go (Merges.no_typing_two reads one two three) = MergeBad.of_typing_two (over_roles two three)
    go (Merges.differing texts) = MergeBad.of_none
    go (Merges.unproved texts) = MergeBad.unproved
    go (Merges.many texts) = MergeBad.of_none
    go (Merges.long texts) = MergeBad.of_none
    go (Merges.fitting texts) = MergeBad.success
