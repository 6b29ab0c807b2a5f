-- What sum and merge leave in the buffer.
use Rattle.std.specs.Prelude.{ℕ, false, List, ◌≡◌, length, take, drop, get_or}
use Rattle.std.proofs.Common.{sym, ap, subst, ◌∙◌}
use Rattle.reading.specs.Policy.{Said}
use Rattle.typings.specs.TypingText.{Typed}
use Rattle.writing.proofs.Buffers.{put-before, put-past}
use Rattle.summing.specs.Outcome.{Outcome, leaves, writes, answer_in, buffer_after}
use Rattle.summing.specs.Sum.{SumAnswer, sum_made, values_of, sum_outcome}
use Rattle.merging.specs.declared.MergeAnswer.{MergeAnswer}
use Rattle.merging.specs.Merge.{merge_outcome}
use Rattle.composing.specs.SumRules.{sum_text, summed, is_summed, SumTexts}
use Rattle.composing.specs.RuleLaws.{sum_so, merge_so}
use Rattle.composing.specs.SumExact.{sum_success, sum_leaves}
use Rattle.composing.specs.MergeRules.{merged, is_merged, MergeTexts}
use Rattle.composing.specs.MergeExact.{merge_success, merge_leaves}
use Rattle.composing.specs.Buffer.{Filled}

-- an outcome that writes fills the buffer,
filled : {A : Type 0} {outcome : Outcome A} {answer : A} {text : List ℕ} {written : ℕ} (buffer : List ℕ) → outcome ≡ writes answer text → length text ≡ written → Filled text written buffer (buffer_after outcome buffer)
unfolding buffer_after
filled {A} {outcome} {text = text} buffer is long =
    subst (λ (n : ℕ). Filled text n buffer (buffer_after outcome buffer)) long
    (record {
      start = ap (λ (o : Outcome A). take (length text) (buffer_after o buffer)) is ∙ put-before text buffer;
      past = ap (λ (o : Outcome A). drop (length text) (buffer_after o buffer)) is ∙ put-past text buffer;
    })

-- and one that leaves it does not touch it
untouched : {A : Type 0} {outcome : Outcome A} {answer : A} (buffer : List ℕ) → outcome ≡ leaves answer → buffer_after outcome buffer ≡ buffer
unfolding buffer_after
untouched {A} buffer is = ap (λ (o : Outcome A). buffer_after o buffer) is

-- Success of sum, and of merge, fills it with the text of the sum, of the length that it answers.
pub sum-filled : (s : Said) (t u : Typed) {outcome : Outcome SumAnswer} {pinned written : ℕ} (buffer : List ℕ) → outcome ≡ summed s t u → answer_in outcome ≡ sum_made pinned written
    → Filled (sum_text s t u) written buffer (buffer_after outcome buffer)
unfolding answer_in summed
sum-filled s t u {pinned = pinned} {written = written} buffer told is = filled buffer told (go (sym (ap answer_in told) ∙ is))
  where
    go : {p n : ℕ} → sum_made p n ≡ sum_made pinned written → n ≡ written
    go e = ap (λ (values : List ℕ). get_or values 1 0) (ap values_of e)

pub merge_filled : (s : Said) (t : Typed) (s' : Said) (u : Typed) {outcome : Outcome MergeAnswer} {roles assigns revokes goals pinned written : ℕ} (buffer : List ℕ) → outcome ≡ merged s t s' u
    → answer_in outcome ≡ MergeAnswer.Merged roles assigns revokes goals pinned written → Filled (sum_text s t u) written buffer (buffer_after outcome buffer)
unfolding answer_in merged
merge_filled s t s' u {roles = roles} {assigns = assigns} {revokes = revokes} {goals = goals} {pinned = pinned} {written = written} buffer told is = filled buffer told (go (sym (ap answer_in told) ∙ is))
  where
    go : {r a v g p n : ℕ} → MergeAnswer.Merged r a v g p n ≡ MergeAnswer.Merged roles assigns revokes goals pinned written → n ≡ written
    go e = cc

module _ (policy first second : List ℕ) (room : ℕ) (buffer : List ℕ) where
  -- Every answer of sum but success leaves the buffer unchanged.
  pub sum_unchanged : is_summed (answer_in (sum_outcome policy first second room)) ≡ false → buffer_after (sum_outcome policy first second room) buffer ≡ buffer
  sum_unchanged none = untouched buffer (sum_leaves policy first second room none)

  -- Success puts the sum's text into it, of the length that it answers.
  pub sum_fills : {pinned written : ℕ} → answer_in (sum_outcome policy first second room) ≡ sum_made pinned written
      → SumTexts policy first second (λ s t u. Filled (sum_text s t u) written buffer (buffer_after (sum_outcome policy first second room) buffer))
  unfolding is_summed
  sum_fills is = sum_so policy first second (λ s t u _ _ _ holds. sum-filled s t u buffer holds.1 is) (sum_success policy first second room (ap is_summed is))

module _ (policy₁ typing₁ policy₂ typing₂ : List ℕ) (room : ℕ) (buffer : List ℕ) where
  -- Every answer of merge but success leaves the buffer unchanged, the answer 2 among them.
  pub merge_unchanged : is_merged (answer_in (merge_outcome policy₁ typing₁ policy₂ typing₂ room)) ≡ false → buffer_after (merge_outcome policy₁ typing₁ policy₂ typing₂ room) buffer ≡ buffer
  merge_unchanged none = untouched buffer (merge_leaves policy₁ typing₁ policy₂ typing₂ room none)

  -- Success puts the sum's text into it, of the length that it answers.
  pub merge_fills : {roles assigns revokes goals pinned written : ℕ} → answer_in (merge_outcome policy₁ typing₁ policy₂ typing₂ room) ≡ MergeAnswer.Merged roles assigns revokes goals pinned written
      → MergeTexts policy₁ typing₁ policy₂ typing₂ (λ s t s' u. Filled (sum_text s t u) written buffer (buffer_after (merge_outcome policy₁ typing₁ policy₂ typing₂ room) buffer))
  unfolding is_merged
  merge_fills is =
      merge_so policy₁ typing₁ policy₂ typing₂ (λ s t s' u _ _ _ _ holds. merge_filled s t s' u buffer holds.3 is) (merge_success policy₁ typing₁ policy₂ typing₂ room (ap is_merged is))
