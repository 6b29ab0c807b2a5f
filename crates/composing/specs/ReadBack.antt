-- The text that sum or merge writes reads back as the sum.
use Rattle.std.specs.Prelude.{ℕ, List, ◌≡◌, take}
use Rattle.std.proofs.Common.{ap, ◌∙◌}
use Rattle.walking.specs.Texts.{read}
use Rattle.reading.specs.Policy.{Said, read_policy}
use Rattle.typings.specs.TypingText.{Typed, read_typing}
use Rattle.reading.specs.Sound.{read_sound}
use Rattle.rereading.specs.Fits.{Fits, fits_read}
use Rattle.summing.specs.Sums.{sum_typed}
use Rattle.summing.specs.Outcome.{answer_in, buffer_after}
use Rattle.summing.specs.Sum.{sum_made, sum_outcome}
use Rattle.merging.specs.declared.MergeAnswer.{MergeAnswer}
use Rattle.merging.specs.Merge.{merge_outcome}
use Rattle.composing.specs.SumRules.{sum_text, TextFits, is_summed, SumTexts}
use Rattle.composing.specs.RuleLaws.{sum_so, merge_so}
use Rattle.composing.specs.SumExact.{sum_success}
use Rattle.composing.specs.MergeRules.{is_merged, MergeTexts}
use Rattle.composing.specs.MergeExact.{merge_success}
use Rattle.composing.specs.BufferLaws.{sum-filled, merge_filled}
use Rattle.composing.specs.Summed.{sum_back}
use Rattle.composing.specs.Together.{two_fits}

-- The sum of two typings over a policy's roles, where its text fits.
pub text_back : (policy : List ℕ) {s : Said} {t u : Typed} {room : ℕ} → read_policy policy ≡ read s → Fits s.roles t → Fits s.roles u → TextFits room (sum_text s t u) → read_typing s.roles (sum_text s t u) ≡ read (sum_typed t u)
unfolding sum_text
text_back policy reads one two fit = sum_back one two (read_sound policy reads).roles.named fit.limit

-- What sum writes, read over the same policy, is the sum.
pub sum_reads_back : (policy first second : List ℕ) (room : ℕ) {pinned written : ℕ} → answer_in (sum_outcome policy first second room) ≡ sum_made pinned written → (buffer : List ℕ)
    → SumTexts policy first second (λ s t u. read_typing s.roles (take written (buffer_after (sum_outcome policy first second room) buffer)) ≡ read (sum_typed t u))
unfolding is_summed
sum_reads_back policy first second room is buffer =
    sum_so policy first second
    (λ s t u reads one two holds.
    ap (read_typing s.roles) (sum-filled s t u buffer holds.1 is).start ∙ text_back policy reads (fits_read s.roles first one) (fits_read s.roles second two) holds.0)
    (sum_success policy first second room (ap is_summed is))

-- What merge writes, read over policy one, is the sum.
pub merge_reads_back : (policy₁ typing₁ policy₂ typing₂ : List ℕ) (room : ℕ) {roles assigns revokes goals pinned written : ℕ}
    → answer_in (merge_outcome policy₁ typing₁ policy₂ typing₂ room) ≡ MergeAnswer.Merged roles assigns revokes goals pinned written → (buffer : List ℕ)
    → MergeTexts policy₁ typing₁ policy₂ typing₂ (λ s t s' u. read_typing s.roles (take written (buffer_after (merge_outcome policy₁ typing₁ policy₂ typing₂ room) buffer)) ≡ read (sum_typed t u))
unfolding is_merged
merge_reads_back policy₁ typing₁ policy₂ typing₂ room is buffer =
    merge_so policy₁ typing₁ policy₂ typing₂
    (λ s t s' u one two three four holds.
    ap (read_typing s.roles) (merge_filled s t s' u buffer holds.3 is).start ∙ text_back policy₁ one (fits_read s.roles typing₁ two) (two_fits typing₂ four holds.0) holds.2)
    (merge_success policy₁ typing₁ policy₂ typing₂ room (ap is_merged is))
