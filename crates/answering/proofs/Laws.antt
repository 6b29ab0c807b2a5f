-- How the answer follows from what a reader finds: the laws of its definition.
use Rattle.std.specs.Prelude.{ℕ, true, false, List, Result, Ok, Err, ◌≡◌}
use Rattle.std.proofs.Math.Path.{sym, ap}
use Rattle.std.proofs.Common.{ap₂, ◌∙◌}
use Rattle.tables.specs.declared.Name.{Name}
use Rattle.tables.specs.Names.{rows}
use Rattle.model.specs.declared.Typing.{Typing as Table}
use Rattle.lines.specs.declared.Counts.{Counts}
use Rattle.reading.specs.Policy.{Said, counts_of}
use Rattle.reading.specs.Ledger.{ledger_says}
use Rattle.reading.specs.Told.{Told, roles-told}
use Rattle.walking.specs.declared.Refusal.{Refusal}
use Rattle.typings.specs.TypingText.{read_typing, typing_read}
use Rattle.typings.specs.TypingTold.{typing_told_lem, typing_untold}
use Rattle.typings.specs.Kind.{is_typing}
use Rattle.judging.specs.declared.Failure.{Failure}
use Rattle.judging.specs.Verdict.{TypingVerdict, accepted, Subject, subject_of, judged_typing, pinned_names}
use Rattle.running.specs.declared.TraceVerdict.{TraceVerdict}
use Rattle.running.specs.Verdict.{trace_verdict}
use Rattle.answering.specs.declared.Answer.{Answer}
use Rattle.answering.specs.Answers.{judged_answer, typing_answer, trace_answer, answer_of}
use Rattle.answering.proofs.Outcomes.{kind_answer}

-- ---- a typing that is read

module _ (c : Counts) (t : Table) {v : TypingVerdict} where
  pub judged_safe : v ≡ accepted → {names : ℕ} → names ≡ pinned_names t c.roles → Answer.Safe c.roles c.assigns c.revokes c.goals names ≡ judged_answer c t v
  unfolding judged_answer
  judged_safe passes many = ap (Answer.Safe c.roles c.assigns c.revokes c.goals) many ∙ sym (ap (judged_answer c t) passes)

  pub judged_fails : {failure : Failure} → v ≡ Err failure → Answer.Unproved failure.part failure.number ≡ judged_answer c t v
  unfolding judged_answer
  judged_fails fails = sym (ap (judged_answer c t) fails)

-- ---- a typing text over a policy

module _ (c : Counts) (subject : Subject) (names : List Name) (text : List ℕ) where
  pub typing_refused : {refusal : Refusal} → Err refusal ≡ typing_read names text → Answer.Refused refusal ≡ typing_answer c subject (read_typing names text)
  unfolding typing_answer
  typing_refused given = sym (ap (typing_answer c subject) (typing_untold names text given))

  pub typing_judged : {typing : Table} → Ok typing ≡ typing_read names text → judged_answer c typing (judged_typing subject typing) ≡ typing_answer c subject (read_typing names text)
  unfolding typing_answer
  typing_judged given =
      let t = typing_told_lem names text given in
      ap (λ (table : Table). judged_answer c table (judged_typing subject table)) t.laid ∙ sym (ap (typing_answer c subject) t.is)

-- ---- both texts

module _ (policy evidence : List ℕ) {c : Counts} {words : List ℕ} (t : Told policy c words) where
  pub over_typing : is_typing evidence ≡ true → {answer : Answer} → answer ≡ typing_answer c (subject_of (ledger_says words c)) (read_typing (rows c.roles words) evidence) → answer ≡ answer_of policy evidence
  over_typing kind given =
      given ∙ ap₂ (λ (d : Counts) (names : List Name). typing_answer d (subject_of (ledger_says words c)) (read_typing names evidence)) t.counts (roles-told t)
      ∙ ap (λ (s : Said). typing_answer (counts_of t.said) (subject_of s) (read_typing t.said.roles evidence)) t.says
      ∙ sym (kind_answer policy evidence t.is kind)

  pub over_trace : is_typing evidence ≡ false → {v : Result TraceVerdict Refusal} → v ≡ trace_verdict (ledger_says words c) evidence → trace_answer v ≡ answer_of policy evidence
  over_trace kind verdict = ap trace_answer (verdict ∙ ap (λ (s : Said). trace_verdict s evidence) t.says) ∙ sym (kind_answer policy evidence t.is kind)
