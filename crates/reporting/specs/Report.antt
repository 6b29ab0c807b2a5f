-- What the commands `sum` and `merge` make: the text, and the line of the answer, its fields parted by tabs.
use Rattle.std.specs.Prelude.{ℕ, Bool, true, false, Option, Some, None, List, [], ◌++◌, ◌≡◌, length, Ok, Err}
use Rattle.text.specs.Forms.{bytes}
use Rattle.writing.specs.Written.{decimal}
use Rattle.showing.specs.Fields.{field, shown_length, shown}
use Rattle.summing.specs.Outcome.{Outcome, leaves, writes, answer_in, buffer_after}
use Rattle.summing.specs.Sum.{SumAnswer, sum_outcome}
use Rattle.merging.specs.declared.MergeAnswer.{MergeAnswer}
use Rattle.merging.specs.Merge.{merge_outcome}
use Rattle.printing.specs.Line.{part_text}
use Rattle.wording.specs.declared.Mention.{Mention}
use Rattle.wording.specs.Mentions.{mention_field}

-- ---- the line of an answer, with its LF

unfoldable pub sum_line : SumAnswer → List ℕ
sum_line (Ok done) = bytes "SUMMED" ++ field (decimal done.pinned) ++ field (decimal done.length) ++ bytes "\n"
sum_line (Err failed) = bytes "REFUSED" ++ field (decimal failed.refusal.number) ++ field (decimal failed.refusal.line) ++ mention_field Mention.SumText failed.text ++ bytes "\n"

unfoldable pub merge_line : MergeAnswer → List ℕ
merge_line (MergeAnswer.Merged roles assigns revokes goals pinned written) =
    bytes "MERGED" ++ field (decimal roles) ++ field (decimal assigns) ++ field (decimal revokes) ++ field (decimal goals) ++ field (decimal pinned) ++ field (decimal written) ++ bytes "\n"
merge_line (MergeAnswer.Unproved which failure) = bytes "UNPROVED" ++ field (part_text failure.part) ++ field (decimal failure.number) ++ mention_field Mention.Judging which ++ bytes "\n"
merge_line (MergeAnswer.Refused which refusal) = bytes "REFUSED" ++ field (decimal refusal.number) ++ field (decimal refusal.line) ++ mention_field Mention.MergeText which ++ bytes "\n"

-- ---- files

-- Which of four files is the first that can't be read, from 1; none where all of them can.
unfoldable pub first_missing : (one two three four : Bool) → Option ℕ
first_missing false two three four = Some 1
first_missing true false three four = Some 2
first_missing true true false four = Some 3
first_missing true true true false = Some 4
first_missing true true true true = None

-- NOFILE, then which file can't be read.
unfoldable pub missing_line : Mention → (which : ℕ) → List ℕ
missing_line mention which = bytes "NOFILE" ++ mention_field mention which ++ bytes "\n"

-- An outcome with the line of its answer in the answer's place.
unfoldable pub in_words : {A : Type 0} → (A → List ℕ) → Outcome A → Outcome (List ℕ)
in_words line (leaves answer) = leaves (line answer)
in_words line (writes answer text) = writes (line answer) text

-- NOFILE where a file is missing, else the answer to the texts and what it writes into a buffer with so much room.
unfoldable pub sum_report : (missing : Option ℕ) (policy first second : List ℕ) → ℕ → Outcome (List ℕ)
sum_report None policy first second room = in_words sum_line (sum_outcome policy first second room)
sum_report (Some which) policy first second room = leaves (missing_line Mention.SumText which)

unfoldable pub merge_report : (missing : Option ℕ) (policy₁ typing₁ policy₂ typing₂ : List ℕ) → ℕ → Outcome (List ℕ)
merge_report None policy₁ typing₁ policy₂ typing₂ room = in_words merge_line (merge_outcome policy₁ typing₁ policy₂ typing₂ room)
merge_report (Some which) policy₁ typing₁ policy₂ typing₂ room = leaves (missing_line Mention.MergeText which)

-- ---- what is made of an outcome

-- The text that it writes.
unfoldable pub text_in : {A : Type 0} → Outcome A → List ℕ
text_in (leaves answer) = []
text_in (writes answer text) = text

-- Whether it writes one.
unfoldable pub is_written : {A : Type 0} → Outcome A → Bool
is_written (leaves answer) = false
is_written (writes answer text) = true

-- The lengths that are answered, and the two buffers before and after, are what the outcome says: the text stands in one, the line is
-- shown in the other.
pub record Reports (outcome : Outcome (List ℕ)) (out line : List ℕ) (texts lines : ℕ) (out' line' : List ℕ) : Type 0 where
  pub text_made : texts ≡ length (text_in outcome)
  pub text_left : out' ≡ buffer_after outcome out
  pub line_made : lines ≡ shown_length (answer_in outcome) line
  pub line_left : line' ≡ shown (answer_in outcome) line
