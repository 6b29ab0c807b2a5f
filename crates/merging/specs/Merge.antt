-- The merge of two judged policies, in the order of document 01: the texts read, 17, the four judgings, 19, 18.
use Rattle.std.specs.Prelude.{ℕ, ◌+◌, Bool, cond, ◌&&◌, List, [], ◌∷◌, leb, length, Ok, Err}
use Rattle.model.specs.declared.Typing.{Typing as Table}
use Rattle.reading.specs.Policy.{Said, read_policy}
use Rattle.typings.specs.TypingText.{Typed, read_typing, table_of}
use Rattle.judging.specs.declared.Part.{Part}
use Rattle.judging.specs.Verdict.{TypingVerdict, typing_verdict, rules_verdict, part_number, pinned_names}
use Rattle.spelling.specs.TypingText.{typing_text}
use Rattle.summing.specs.Sums.{sum_of}
use Rattle.summing.specs.Outcome.{Outcome, leaves, writes, when_read, fits}
use Rattle.merging.specs.declared.MergeAnswer.{MergeAnswer}
use Rattle.merging.specs.Directory.{same_directory}

-- A judging that fails, and a refusal, by their numbers.
abbrev pub merge_unproved : (which : ℕ) → Part → (number : ℕ) → MergeAnswer
merge_unproved which part number = MergeAnswer.Unproved which (record { part = part; number = number })

abbrev pub merge_refused : (which number line : ℕ) → MergeAnswer
merge_refused which number line = MergeAnswer.Refused which (record { number = number; line = line })

-- 17: the roles in order, the users in order, clearances or holdings differ.
unfoldable pub when_same : Said → Said → Outcome MergeAnswer → Outcome MergeAnswer
when_same s s' next = cond (same_directory s s') next (leaves (merge_refused 0 17 0))

-- 2: a judging that fails is the answer, with its place among the four.
unfoldable pub when_accepted : ℕ → TypingVerdict → Outcome MergeAnswer → Outcome MergeAnswer
when_accepted which (Ok _) next = next
when_accepted which (Err failure) next = leaves (MergeAnswer.Unproved which failure)

-- 19: a joint count above its limit.
unfoldable pub counts_fit : Said → Said → Bool
counts_fit s s' =
    leb (length s.assigns + length s'.assigns) 256 && leb (length s.revokes + length s'.revokes) 256 && leb (length s.goals + length s'.goals) 32

-- The sum written into a buffer with so much room, with the joint counts, or 18.
unfoldable pub merge_written : ℕ → Said → Said → Table → Outcome MergeAnswer
merge_written room s s' t =
    let text = typing_text s.roles t in
    cond (fits room text)
    (writes
    (MergeAnswer.Merged (length s.roles) (length s.assigns + length s'.assigns) (length s.revokes + length s'.revokes) (length s.goals + length s'.goals) (pinned_names t (length s.roles)) (length text))
    text)
    (leaves (merge_refused 0 18 0))

-- The joint counts, then the sum.
unfoldable pub merge_counted : ℕ → Said → Said → Table → Outcome MergeAnswer
merge_counted room s s' t = cond (counts_fit s s') (merge_written room s s' t) (leaves (merge_refused 0 19 0))

-- Typing one on policy one, typing two on policy two, typing one on rules two, typing two on rules one; then 19, then 18.
unfoldable pub merge_judged : ℕ → Said → Table → Said → Table → Outcome MergeAnswer
merge_judged room s t s' u =
    when_accepted 1 (typing_verdict s t)
    (when_accepted 2 (typing_verdict s' u)
    (when_accepted 3 (rules_verdict s' t)
    (when_accepted 4 (rules_verdict s u)
    (merge_counted room s s' (sum_of t u)))))

-- Policy one, typing one, policy two, typing two; a refusal says which.
unfoldable pub merge_outcome : (policy₁ typing₁ policy₂ typing₂ : List ℕ) → ℕ → Outcome MergeAnswer
merge_outcome policy₁ typing₁ policy₂ typing₂ room =
    when_read (merge_refused 1) (read_policy policy₁) (λ (s : Said).
    when_read (merge_refused 2) (read_typing s.roles typing₁) (λ (t : Typed).
    when_read (merge_refused 3) (read_policy policy₂) (λ (s' : Said).
    when_read (merge_refused 4) (read_typing s'.roles typing₂) (λ (u : Typed).
    when_same s s' (merge_judged room s (table_of t) s' (table_of u))))))

-- How many words of memory a merge takes: a ledger for each policy.
abbrev pub merge_words : ℕ
merge_words = 6144

-- Document 01's number of an answer, and its values: the joint counts, pinned and the length; which of the four judgings, the
-- part and its number; which text a refusal speaks of, and the line.
abbrev pub number_of : MergeAnswer → ℕ
number_of (MergeAnswer.Merged roles assigns revokes goals pinned written) = 0
number_of (MergeAnswer.Unproved which failure) = 2
number_of (MergeAnswer.Refused which refusal) = refusal.number

abbrev pub values_of : MergeAnswer → List ℕ
values_of (MergeAnswer.Merged roles assigns revokes goals pinned written) = roles ∷ assigns ∷ revokes ∷ goals ∷ pinned ∷ written ∷ []
values_of (MergeAnswer.Unproved which failure) = which ∷ part_number failure.part ∷ failure.number ∷ []
values_of (MergeAnswer.Refused which refusal) = which ∷ refusal.line ∷ []
