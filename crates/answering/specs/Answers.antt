-- What is answered to a policy text and a piece of evidence, in the order of document 01: the policy is read, then the evidence, then it is judged.
use Rattle.std.specs.Prelude.{ℕ, suc, cond, List, [], ◌∷◌, Result, Ok, Err}
use Rattle.model.specs.declared.Typing.{Typing as Table}
use Rattle.walking.specs.declared.Refusal.{Refusal}
use Rattle.walking.specs.Texts.{Reading, read, refused}
use Rattle.lines.specs.declared.Counts.{Counts}
use Rattle.reading.specs.Policy.{Said, counts_of, read_policy}
use Rattle.typings.specs.TypingText.{Typed, read_typing, table_of}
use Rattle.typings.specs.Kind.{is_typing}
use Rattle.judging.specs.Verdict.{TypingVerdict, Subject, subject_of, judged_typing, part_number, pinned_names}
use Rattle.running.specs.declared.TraceVerdict.{TraceVerdict}
use Rattle.running.specs.Verdict.{trace_verdict}
use Rattle.answering.specs.declared.Answer.{Answer}

-- A refusal with a number, at a line.
abbrev pub refused_at : (number line : ℕ) → Answer
refused_at number line = Answer.Refused (record { number = number; line = line })

-- A typing that is read: SAFE with the counts and the pinned names, or UNPROVED with the first failure.
unfoldable pub judged_answer : Counts → Table → TypingVerdict → Answer
judged_answer c t (Ok _) = Answer.Safe c.roles c.assigns c.revokes c.goals (pinned_names t c.roles)
judged_answer c t (Err failure) = Answer.Unproved failure.part failure.number

-- A typing text.
unfoldable pub typing_answer : Counts → Subject → Reading Typed → Answer
typing_answer c subject (read t) = judged_answer c (table_of t) (judged_typing subject (table_of t))
typing_answer c subject (refused number line) = refused_at number line

-- A trace that is read: ATTACKED, BROKEN or SHORT.
unfoldable pub traced_answer : TraceVerdict → Answer
traced_answer (TraceVerdict.Attacked steps user name goal) = Answer.Attacked steps user name goal
traced_answer (TraceVerdict.Broken step) = Answer.Broken step
traced_answer (TraceVerdict.Short steps) = Answer.Short steps

-- A trace text.
unfoldable pub trace_answer : Result TraceVerdict Refusal → Answer
trace_answer (Ok verdict) = traced_answer verdict
trace_answer (Err refusal) = Answer.Refused refusal

-- Evidence over what a policy text says.
unfoldable pub evidence_answer : Said → List ℕ → Answer
evidence_answer s evidence = cond (is_typing evidence) (typing_answer (counts_of s) (subject_of s) (read_typing s.roles evidence)) (trace_answer (trace_verdict s evidence))

unfoldable pub answer_after : Reading Said → List ℕ → Answer
answer_after (read s) evidence = evidence_answer s evidence
answer_after (refused number line) evidence = refused_at number line

unfoldable pub answer_of : (policy evidence : List ℕ) → Answer
answer_of policy evidence = answer_after (read_policy policy) evidence

-- What is answered where a text may be refused while it is read: the answer, or that refusal.
unfoldable pub answered : Result Answer Refusal → Answer
answered (Ok answer) = answer
answered (Err refusal) = Answer.Refused refusal

-- Document 01's number of an answer, and its values in the order of the table. A part is told by its number, a user by its number from 1.
abbrev pub number_of : Answer → ℕ
number_of (Answer.Safe roles assigns revokes goals pinned) = 0
number_of (Answer.Attacked steps user name goal) = 1
number_of (Answer.Unproved part number) = 2
number_of (Answer.Broken step) = 3
number_of (Answer.Short steps) = 4
number_of (Answer.Refused refusal) = refusal.number

abbrev pub values_of : Answer → List ℕ
values_of (Answer.Safe roles assigns revokes goals pinned) = roles ∷ assigns ∷ revokes ∷ goals ∷ pinned ∷ []
values_of (Answer.Attacked steps user name goal) = steps ∷ suc user ∷ goal ∷ []
values_of (Answer.Unproved part number) = part_number part ∷ number ∷ []
values_of (Answer.Broken step) = step ∷ []
values_of (Answer.Short steps) = steps ∷ []
values_of (Answer.Refused refusal) = refusal.line ∷ []
