-- The pinned count that sum or merge answers is the number of names in the plus and minus fields of the text that it writes.
use Rattle.std.specs.Prelude.{ℕ, List, ◌≡◌, length, take, get_or}
use Rattle.std.proofs.Common.{sym, ap, ◌∙◌}
use Rattle.model.specs.declared.Typing.{Typing as Table}
use Rattle.walking.specs.Texts.{read}
use Rattle.reading.specs.Policy.{Said, read_policy}
use Rattle.typings.specs.TypingText.{Typed, table_of}
use Rattle.judging.specs.Verdict.{pinned_names}
use Rattle.rereading.specs.Fits.{Fits, fits_read}
use Rattle.spelt.specs.Pinned.{names_in}
use Rattle.spelt.specs.PinnedExact.{pinned_counts}
use Rattle.summing.specs.Sums.{sum_of}
use Rattle.summing.specs.Outcome.{answer_in, buffer_after}
use Rattle.summing.specs.Sum.{sum_made, values_of, sum_outcome}
use Rattle.merging.specs.declared.MergeAnswer.{MergeAnswer}
use Rattle.merging.specs.Merge.{merge_outcome}
use Rattle.composing.specs.SumRules.{sum_text, TextFits, summed, is_summed}
use Rattle.composing.specs.SumExact.{sum_success}
use Rattle.composing.specs.MergeRules.{merged, is_merged}
use Rattle.composing.specs.MergeExact.{merge_success}
use Rattle.composing.specs.Buffer.{Filled}
use Rattle.composing.specs.BufferLaws.{sum-filled, merge_filled}
use Rattle.composing.specs.Summed.{sum_laid}
use Rattle.composing.specs.Together.{two_fits}
use Rattle.composing.specs.ReadBack.{text_back}

-- The pinned count of the sum of two typings over a policy's roles, where its text fits, is what stands written.
text_pinned : (policy : List ℕ) {s : Said} {t u : Typed} {room written : ℕ} {before after : List ℕ} → read_policy policy ≡ read s → Fits s.roles t → Fits s.roles u → TextFits room (sum_text s t u) → Filled (sum_text s t u) written before after
    → pinned_names (sum_of (table_of t) (table_of u)) (length s.roles) ≡ names_in (take written after)
text_pinned policy {s} {t} {u} reads one two fit filled =
    ap (λ (x : Table). pinned_names x (length s.roles)) (sym (sum_laid one two))
    ∙ pinned_counts policy reads (sum_text s t u) (text_back policy reads one two fit)
    ∙ ap names_in (sym filled.start)

-- What sum answers as pinned,
pub sum_pinned : (policy first second : List ℕ) (room : ℕ) {pinned written : ℕ} → answer_in (sum_outcome policy first second room) ≡ sum_made pinned written → (buffer : List ℕ)
    → pinned ≡ names_in (take written (buffer_after (sum_outcome policy first second room) buffer))
unfolding is_summed answer_in summed
sum_pinned policy first second room {pinned} {written} is buffer =
    let texts = sum_success policy first second room (ap is_summed is) in
    let s = texts.said in
    told (sym (ap answer_in texts.holds.1) ∙ is)
    ∙ text_pinned policy texts.policy_read (fits_read s.roles first texts.first_read) (fits_read s.roles second texts.second_read) texts.holds.0 (sum-filled s texts.one texts.two buffer texts.holds.1 is)
  where
    told : {p n : ℕ} → sum_made p n ≡ sum_made pinned written → pinned ≡ p
    told e = sym (ap (λ (values : List ℕ). get_or values 0 0) (ap values_of e))

-- and what merge does.
pub merge_pinned : (policy₁ typing₁ policy₂ typing₂ : List ℕ) (room : ℕ) {roles assigns revokes goals pinned written : ℕ}
    → answer_in (merge_outcome policy₁ typing₁ policy₂ typing₂ room) ≡ MergeAnswer.Merged roles assigns revokes goals pinned written → (buffer : List ℕ)
    → pinned ≡ names_in (take written (buffer_after (merge_outcome policy₁ typing₁ policy₂ typing₂ room) buffer))
unfolding is_merged answer_in merged
merge_pinned policy₁ typing₁ policy₂ typing₂ room {roles} {assigns} {revokes} {goals} {pinned} {written} is buffer =
    let texts = merge_success policy₁ typing₁ policy₂ typing₂ room (ap is_merged is) in
    let s = texts.said₁ in
    told (sym (ap answer_in texts.holds.3) ∙ is)
    ∙ text_pinned policy₁ texts.policy_one (fits_read s.roles typing₁ texts.typing_one) (two_fits typing₂ texts.typing_two texts.holds.0) texts.holds.2 (merge_filled s texts.typed₁ texts.said₂ texts.typed₂ buffer texts.holds.3 is)
  where
    told : {r a v g p n : ℕ} → MergeAnswer.Merged r a v g p n ≡ MergeAnswer.Merged roles assigns revokes goals pinned written → pinned ≡ p
    told e = cc
