-- When a sum or a merge is reported as a success, and when as a missing file. The words that a line begins with differ in their first
-- letters: S of SUMMED, M of MERGED, U of UNPROVED, R of REFUSED, N of NOFILE.
use Rattle.std.specs.Prelude.{ℕ, ◌≤◌, Bool, true, false, Option, Some, None, List, ◌↔◌, ◌≡◌, length, get_or, Ok, Err}
use Rattle.std.proofs.Common.{true≢false, sym, ◌∙◌, length-append, arith}
use Rattle.std.proofs.lemmas.Bool.{false≢true}
use Rattle.std.proofs.Math.Path.{refl, ap}
use Rattle.writing.specs.Spelling.{decimal_length}
use Rattle.showing.specs.Fields.{field}
use Rattle.summing.specs.Outcome.{Outcome, leaves, writes, answer_in}
use Rattle.summing.specs.Sum.{SumAnswer, sum_outcome}
use Rattle.merging.specs.declared.MergeAnswer.{MergeAnswer}
use Rattle.merging.specs.Merge.{merge_outcome}
use Rattle.printing.specs.LineSteps.{part_length}
use Rattle.wording.specs.declared.Mention.{Mention}
use Rattle.wording.specs.MentionLaws.{mention_length}
use Rattle.reporting.specs.Report.{sum_line, merge_line, first_missing, missing_line, in_words, sum_report, merge_report, is_written}
use Rattle.reporting.specs.ReportLaws.{Kind, left, made}
use Rattle.reporting.specs.ReportKinds.{is_summed, sum_told, sum-kind, sum_missing, sum_there, is_merged, merge_told, merge_kind, merge_missing, merge_there}

-- ---- the first file that is missing

-- None is missing exactly where all of them can be read.
pub missing_none : (one two three four : Bool) → first_missing one two three four ≡ None ↔ (one ≡ true) × (two ≡ true) × (three ≡ true) × (four ≡ true)
unfolding first_missing
missing_none false two three four = (λ is. cc, λ all. absurd (false≢true all.0))
missing_none true false three four = (λ is. cc, λ all. absurd (false≢true all.1))
missing_none true true false four = (λ is. cc, λ all. absurd (false≢true all.2))
missing_none true true true false = (λ is. cc, λ all. absurd (false≢true all.3))
missing_none true true true true = (λ is. (refl, refl, refl, refl), λ all. refl)

-- ---- the first letter of a line

abbrev pub letter : Outcome (List ℕ) → ℕ
letter outcome = get_or (answer_in outcome) 0 0

-- What the first letter says of an answer: the letter of success, or another, which is not that of NOFILE.
pub record Tells (success : ℕ) (works : Bool) (first : ℕ) : Type 0 where
  pub succeeds : first ≡ success ↔ works ≡ true
  pub named : first ≡ 78 → ⊥

pub works_so : {success : ℕ} → (success ≡ 78 → ⊥) → Tells success true success
works_so other = record { succeeds = (λ is. refl, λ is. refl); named = other }

pub fails_so : {success first : ℕ} → (first ≡ success → ⊥) → (first ≡ 78 → ⊥) → Tells success false first
fails_so not-success not-missing = record { succeeds = (λ is. absurd (not-success is), λ is. absurd (false≢true is)); named = not-missing }

-- what it says where files may be missing
module _ {success : ℕ} {works : Bool} {said : Outcome (List ℕ)} (report : Option ℕ → Outcome (List ℕ)) (none : ℕ → List ℕ) (tells : Tells success works (letter said)) (other : success ≡ 78 → ⊥)
    (first : (which : ℕ) → get_or (none which) 0 0 ≡ 78) (there : report None ≡ said) (gone : (which : ℕ) → report (Some which) ≡ leaves (none which)) where
  unread : (which : ℕ) → letter (report (Some which)) ≡ 78
  unfolding answer_in
  unread which = ap letter (gone which) ∙ first which

  pub reported : (missing : Option ℕ) → letter (report missing) ≡ success ↔ (missing ≡ None) × (works ≡ true)
  reported None = (λ is. (refl, tells.succeeds.0 (sym (ap letter there) ∙ is)), λ so. ap letter there ∙ tells.succeeds.1 so.1)
  reported (Some which) = (λ is. absurd (other (sym is ∙ unread which)), λ so. let all = so.0 in cc)

  pub nofile : (missing : Option ℕ) → letter (report missing) ≡ 78 ↔ (missing ≡ None → ⊥)
  nofile None = (λ is. absurd (tells.named (sym (ap letter there) ∙ is)), λ gone. absurd (gone refl))
  nofile (Some which) = (λ is all. cc, λ gone. unread which)

-- ---- a sum

sum_tells : {room : ℕ} {outcome : Outcome SumAnswer} → Kind is_summed sum_told room outcome → Tells 83 (is_written outcome) (letter (in_words sum_line outcome))
unfolding in_words answer_in sum_line is_summed is_written
sum_tells (left (Ok done) failing) = absurd (true≢false failing)
sum_tells (left (Err failed) failing) = fails_so (λ is. omega (arith, is)) (λ is. omega (arith, is))
sum_tells (made (Ok done) text succeeding long room) = works_so (λ is. omega (arith, is))
sum_tells (made (Err failed) text succeeding long room) = absurd (false≢true succeeding)

module _ (missing : Option ℕ) (policy first second : List ℕ) (room : ℕ) where
  -- SUMMED exactly where no file is missing and the sum is written.
  pub sum_reported : get_or (answer_in (sum_report missing policy first second room)) 0 0 ≡ 83 ↔ (missing ≡ None) × (is_written (sum_outcome policy first second room) ≡ true)
  unfolding missing_line
  sum_reported = reported (λ (files : Option ℕ). sum_report files policy first second room) (missing_line Mention.SumText) (sum_tells (sum-kind policy first second room)) (λ is. omega (arith, is)) (λ which. refl) (sum_there policy first second room refl) (λ which. sum_missing policy first second room refl) missing

  -- NOFILE exactly where a file is missing.
  pub sum_nofile : get_or (answer_in (sum_report missing policy first second room)) 0 0 ≡ 78 ↔ (missing ≡ None → ⊥)
  unfolding missing_line
  sum_nofile = nofile (λ (files : Option ℕ). sum_report files policy first second room) (missing_line Mention.SumText) (sum_tells (sum-kind policy first second room)) (λ is. omega (arith, is)) (λ which. refl) (sum_there policy first second room refl) (λ which. sum_missing policy first second room refl) missing

-- ---- a merge

merge_tells : {room : ℕ} {outcome : Outcome MergeAnswer} → Kind is_merged merge_told room outcome → Tells 77 (is_written outcome) (letter (in_words merge_line outcome))
unfolding in_words answer_in merge_line is_merged is_written
merge_tells (left (MergeAnswer.Merged roles assigns revokes goals pinned length) failing) = absurd (true≢false failing)
merge_tells (left (MergeAnswer.Unproved which failure) failing) = fails_so (λ is. omega (arith, is)) (λ is. omega (arith, is))
merge_tells (left (MergeAnswer.Refused which refusal) failing) = fails_so (λ is. omega (arith, is)) (λ is. omega (arith, is))
merge_tells (made (MergeAnswer.Merged roles assigns revokes goals pinned length) text succeeding long room) = works_so (λ is. omega (arith, is))
merge_tells (made (MergeAnswer.Unproved which failure) text succeeding long room) = absurd (false≢true succeeding)
merge_tells (made (MergeAnswer.Refused which refusal) text succeeding long room) = absurd (false≢true succeeding)

module _ (missing : Option ℕ) (policy₁ typing₁ policy₂ typing₂ : List ℕ) (room : ℕ) where
  -- MERGED exactly where no file is missing and the sum of the typings is written.
  pub merge_reported : get_or (answer_in (merge_report missing policy₁ typing₁ policy₂ typing₂ room)) 0 0 ≡ 77 ↔ (missing ≡ None) × (is_written (merge_outcome policy₁ typing₁ policy₂ typing₂ room) ≡ true)
  unfolding missing_line
  merge_reported = reported (λ (files : Option ℕ). merge_report files policy₁ typing₁ policy₂ typing₂ room) (missing_line Mention.MergeText) (merge_tells (merge_kind policy₁ typing₁ policy₂ typing₂ room)) (λ is. omega (arith, is)) (λ which. refl) (merge_there policy₁ typing₁ policy₂ typing₂ room refl) (λ which. merge_missing policy₁ typing₁ policy₂ typing₂ room refl) missing

  -- NOFILE exactly where a file is missing.
  pub merge_nofile : get_or (answer_in (merge_report missing policy₁ typing₁ policy₂ typing₂ room)) 0 0 ≡ 78 ↔ (missing ≡ None → ⊥)
  unfolding missing_line
  merge_nofile = nofile (λ (files : Option ℕ). merge_report files policy₁ typing₁ policy₂ typing₂ room) (missing_line Mention.MergeText) (merge_tells (merge_kind policy₁ typing₁ policy₂ typing₂ room)) (λ is. omega (arith, is)) (λ which. refl) (merge_there policy₁ typing₁ policy₂ typing₂ room refl) (λ which. merge_missing policy₁ typing₁ policy₂ typing₂ room refl) missing

-- ---- how long a line is

pub missing_length : (mention : Mention) (which : ℕ) → length (missing_line mention which) ≤ 192
unfolding missing_line
missing_length mention which = simp length-append (omega (arith, mention_length mention which))

sum_length : (answer : SumAnswer) → length (sum_line answer) ≤ 192
unfolding sum_line field
sum_length (Ok done) = simp length-append (omega (arith, decimal_length done.pinned, decimal_length done.length))
sum_length (Err failed) = simp length-append (omega (arith, decimal_length failed.refusal.number, decimal_length failed.refusal.line, mention_length Mention.SumText failed.text))

merge_length : (answer : MergeAnswer) → length (merge_line answer) ≤ 192
unfolding merge_line field
merge_length (MergeAnswer.Merged roles assigns revokes goals pinned written) =
    simp length-append (omega (arith, decimal_length roles, decimal_length assigns, decimal_length revokes, decimal_length goals, decimal_length pinned, decimal_length written))
merge_length (MergeAnswer.Unproved which failure) = simp length-append (omega (arith, part_length failure.part, decimal_length failure.number, mention_length Mention.Judging which))
merge_length (MergeAnswer.Refused which refusal) = simp length-append (omega (arith, decimal_length refusal.number, decimal_length refusal.line, mention_length Mention.MergeText which))

pub words_length : {A : Type 0} (words : A → List ℕ) → ((answer : A) → length (words answer) ≤ 192) → (outcome : Outcome A) → length (answer_in (in_words words outcome)) ≤ 192
unfolding in_words answer_in
words_length words few (leaves answer) = few answer
words_length words few (writes answer text) = few answer

-- Every line of `sum` and `merge` fits into 192 bytes.
pub sum_longest : (missing : Option ℕ) (policy first second : List ℕ) (room : ℕ) → length (answer_in (sum_report missing policy first second room)) ≤ 192
unfolding sum_report answer_in
sum_longest None policy first second room = words_length sum_line sum_length (sum_outcome policy first second room)
sum_longest (Some which) policy first second room = missing_length Mention.SumText which

pub merge_longest : (missing : Option ℕ) (policy₁ typing₁ policy₂ typing₂ : List ℕ) (room : ℕ) → length (answer_in (merge_report missing policy₁ typing₁ policy₂ typing₂ room)) ≤ 192
unfolding merge_report answer_in
merge_longest None policy₁ typing₁ policy₂ typing₂ room = words_length merge_line merge_length (merge_outcome policy₁ typing₁ policy₂ typing₂ room)
merge_longest (Some which) policy₁ typing₁ policy₂ typing₂ room = missing_length Mention.MergeText which
