-- Where a sum and a merge write a text, and what they report where a file is missing.
use Rattle.std.specs.Prelude.{ℕ, Bool, true, false, Option, Some, None, List, [], ◌∷◌, ◌++◌, ◌≡◌, refl, Ok, Err}
use Rattle.model.specs.declared.Typing.{Typing as Table}
use Rattle.reading.specs.Policy.{Said, read_policy}
use Rattle.typings.specs.TypingText.{Typed, read_typing, table_of}
use Rattle.judging.specs.Verdict.{TypingVerdict, typing_verdict, rules_verdict}
use Rattle.text.specs.Forms.{bytes}
use Rattle.showing.specs.Fields.{fields_on}
use Rattle.spelling.specs.TypingText.{typing_text}
use Rattle.summing.specs.Outcome.{Outcome, leaves}
use Rattle.summing.specs.Sum.{SumAnswer, sum_made, sum_refused, sum_written, sum_outcome}
use Rattle.summing.specs.Sums.{sum_of}
use Rattle.merging.specs.declared.MergeAnswer.{MergeAnswer}
use Rattle.merging.specs.Directory.{same_directory}
use Rattle.merging.specs.Merge.{merge_refused, when_same, when_accepted, counts_fit, merge_written, merge_counted, merge_judged, merge_outcome}
use Rattle.wording.specs.declared.Mention.{Mention}
use Rattle.wording.specs.Mentions.{mention_field}
use Rattle.wording.specs.MentionLaws.{of_nothing}
use Rattle.reporting.specs.Report.{sum_line, merge_line, missing_line, in_words, sum_report, merge_report}
use Rattle.reporting.specs.ReportLaws.{Kind, left, kind_read, kind_one, kind_fits}

-- No file is missing where none is named.
pub all_read : {missing : Option ℕ} → ((which : ℕ) → missing ≡ Some which → ⊥) → missing ≡ None
all_read {missing = None} none = refl
all_read {missing = Some which} none = absurd (none which refl)

-- ---- a sum

-- whether an answer is a success, and the length of the text that it tells
unfoldable pub is_summed : SumAnswer → Bool
is_summed (Ok done) = true
is_summed (Err failed) = false

unfoldable pub sum_told : SumAnswer → ℕ
sum_told (Ok done) = done.length
sum_told (Err failed) = 0

pub sum-kind : (policy first second : List ℕ) (room : ℕ) → Kind is_summed sum_told room (sum_outcome policy first second room)
unfolding sum_outcome sum_written is_summed sum_told
sum-kind policy first second room =
    kind_read is_summed sum_told room (sum_refused 1) (read_policy policy) _ (λ k n. refl) (λ (s : Said).
    kind_read is_summed sum_told room (sum_refused 2) (read_typing s.roles first) _ (λ k n. refl) (λ (t : Typed).
    kind_read is_summed sum_told room (sum_refused 3) (read_typing s.roles second) _ (λ k n. refl) (λ (u : Typed).
    kind_fits is_summed sum_told room _ (sum_refused 0 18 0) (typing_text s.roles (sum_of (table_of t) (table_of u))) refl refl refl)))

module _ (policy first second : List ℕ) (room : ℕ) {missing : Option ℕ} where
  pub sum_missing : {which : ℕ} → missing ≡ Some which → sum_report missing policy first second room ≡ leaves (missing_line Mention.SumText which)
  unfolding sum_report
  sum_missing gone = rw gone

  pub sum_there : missing ≡ None → sum_report missing policy first second room ≡ in_words sum_line (sum_outcome policy first second room)
  unfolding sum_report
  sum_there all = rw all

-- the line of a success speaks of no text
pub summed_line : (pinned written : ℕ) → fields_on (bytes "SUMMED") (pinned ∷ written ∷ []) ++ mention_field Mention.SumText 0 ++ bytes "\n" ≡ sum_line (sum_made pinned written)
unfolding fields_on sum_line
summed_line pinned written = of_nothing (fields_on (bytes "SUMMED") (pinned ∷ written ∷ [])) Mention.SumText

-- ---- a merge

unfoldable pub is_merged : MergeAnswer → Bool
is_merged (MergeAnswer.Merged roles assigns revokes goals pinned written) = true
is_merged (MergeAnswer.Unproved which failure) = false
is_merged (MergeAnswer.Refused which refusal) = false

unfoldable pub merge_told : MergeAnswer → ℕ
merge_told (MergeAnswer.Merged roles assigns revokes goals pinned written) = written
merge_told (MergeAnswer.Unproved which failure) = 0
merge_told (MergeAnswer.Refused which refusal) = 0

accepted_kind : {room : ℕ} (which : ℕ) (verdict : TypingVerdict) {next : Outcome MergeAnswer} → Kind is_merged merge_told room next → Kind is_merged merge_told room (when_accepted which verdict next)
unfolding when_accepted is_merged
accepted_kind which (Ok _) on = on
accepted_kind which (Err failure) on = left (MergeAnswer.Unproved which failure) refl

counted-kind : (room : ℕ) (s s' : Said) (t : Table) → Kind is_merged merge_told room (merge_counted room s s' t)
unfolding merge_counted merge_written is_merged merge_told
counted-kind room s s' t =
    kind_one is_merged merge_told room (counts_fit s s') (kind_fits is_merged merge_told room _ (merge_refused 0 18 0) (typing_text s.roles t) refl refl refl) (left (merge_refused 0 19 0) refl)

judged-kind : (room : ℕ) (s s' : Said) (t u : Table) → Kind is_merged merge_told room (when_same s s' (merge_judged room s t s' u))
unfolding when_same merge_judged is_merged
judged-kind room s s' t u =
    kind_one is_merged merge_told room (same_directory s s')
    (accepted_kind 1 (typing_verdict s t) (accepted_kind 2 (typing_verdict s' u) (accepted_kind 3 (rules_verdict s' t) (accepted_kind 4 (rules_verdict s u) (counted-kind room s s' (sum_of t u))))))
    (left (merge_refused 0 17 0) refl)

pub merge_kind : (policy₁ typing₁ policy₂ typing₂ : List ℕ) (room : ℕ) → Kind is_merged merge_told room (merge_outcome policy₁ typing₁ policy₂ typing₂ room)
unfolding merge_outcome is_merged
merge_kind policy₁ typing₁ policy₂ typing₂ room =
    kind_read is_merged merge_told room (merge_refused 1) (read_policy policy₁) _ (λ k n. refl) (λ (s : Said).
    kind_read is_merged merge_told room (merge_refused 2) (read_typing s.roles typing₁) _ (λ k n. refl) (λ (t : Typed).
    kind_read is_merged merge_told room (merge_refused 3) (read_policy policy₂) _ (λ k n. refl) (λ (s' : Said).
    kind_read is_merged merge_told room (merge_refused 4) (read_typing s'.roles typing₂) _ (λ k n. refl) (λ (u : Typed).
    judged-kind room s s' (table_of t) (table_of u)))))

module _ (policy₁ typing₁ policy₂ typing₂ : List ℕ) (room : ℕ) {missing : Option ℕ} where
  pub merge_missing : {which : ℕ} → missing ≡ Some which → merge_report missing policy₁ typing₁ policy₂ typing₂ room ≡ leaves (missing_line Mention.MergeText which)
  unfolding merge_report
  merge_missing gone = rw gone

  pub merge_there : missing ≡ None → merge_report missing policy₁ typing₁ policy₂ typing₂ room ≡ in_words merge_line (merge_outcome policy₁ typing₁ policy₂ typing₂ room)
  unfolding merge_report
  merge_there all = rw all

pub merged_line : (roles assigns revokes goals pinned written : ℕ)
    → fields_on (bytes "MERGED") (roles ∷ assigns ∷ revokes ∷ goals ∷ pinned ∷ written ∷ []) ++ mention_field Mention.MergeText 0 ++ bytes "\n" ≡ merge_line (MergeAnswer.Merged roles assigns revokes goals pinned written)
unfolding fields_on merge_line
merged_line roles assigns revokes goals pinned written = of_nothing (fields_on (bytes "MERGED") (roles ∷ assigns ∷ revokes ∷ goals ∷ pinned ∷ written ∷ [])) Mention.MergeText
