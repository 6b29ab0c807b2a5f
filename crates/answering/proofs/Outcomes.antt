-- How an answer of `check` comes about: the policy is refused, or the evidence is, or the evidence is judged.
use Rattle.std.specs.Prelude.{ℕ, Bool, true, false, List, ◌≡◌, refl}
use Rattle.std.proofs.Math.Bool.{cond}
use Rattle.std.proofs.Common.{sym, subst, ◌∙◌}
use Rattle.std.proofs.Math.Path.{ap}
use Rattle.walking.specs.Texts.{Reading, read, refused}
use Rattle.reading.specs.Policy.{Said, counts_of, read_policy}
use Rattle.typings.specs.TypingText.{Typed, read_typing, table_of}
use Rattle.typings.specs.Kind.{is_typing}
use Rattle.judging.specs.Verdict.{subject_of, typing_verdict}
use Rattle.running.specs.Verdict.{trace_verdict}
use Rattle.answering.specs.declared.Answer.{Answer}
use Rattle.answering.specs.Answers.{judged_answer, typing_answer, trace_answer, refused_at, evidence_answer, answer_after, answer_of}
use Rattle.answering.specs.Kinds.{typing_kind}

module _ (policy evidence : List ℕ) where
  -- the readings and the verdict behind an answer
  pub data Outcome : Answer → Type 0 where
    no_policy : {k n : ℕ} → read_policy policy ≡ refused k n → Outcome (refused_at k n)
    no_typing : {s : Said} {k n : ℕ} → read_policy policy ≡ read s → is_typing evidence ≡ true → read_typing s.roles evidence ≡ refused k n → Outcome (refused_at k n)
    typed : {s : Said} {t : Typed} → read_policy policy ≡ read s → read_typing s.roles evidence ≡ read t → Outcome (judged_answer (counts_of s) (table_of t) (typing_verdict s (table_of t)))
    traced : {s : Said} → read_policy policy ≡ read s → is_typing evidence ≡ false → Outcome (trace_answer (trace_verdict s evidence))

  -- the answer where the policy is read, by the kind of the evidence
  pub kind_answer : {s : Said} {b : Bool} → read_policy policy ≡ read s → is_typing evidence ≡ b
      → answer_of policy evidence ≡ cond b (typing_answer (counts_of s) (subject_of s) (read_typing s.roles evidence)) (trace_answer (trace_verdict s evidence))
  unfolding answer_of answer_after evidence_answer
  kind_answer {s} reads kind =
      ap (λ (r : Reading Said). answer_after r evidence) reads
      ∙ ap (λ (b : Bool). cond b (typing_answer (counts_of s) (subject_of s) (read_typing s.roles evidence)) (trace_answer (trace_verdict s evidence))) kind

  pub policy_refused : {k n : ℕ} → read_policy policy ≡ refused k n → answer_of policy evidence ≡ refused_at k n
  unfolding answer_of answer_after
  policy_refused reads = ap (λ (r : Reading Said). answer_after r evidence) reads

  pub typing_refused : {s : Said} {k n : ℕ} → read_policy policy ≡ read s → is_typing evidence ≡ true → read_typing s.roles evidence ≡ refused k n → answer_of policy evidence ≡ refused_at k n
  unfolding typing_answer
  typing_refused {s} reads kind over = kind_answer reads kind ∙ ap (typing_answer (counts_of s) (subject_of s)) over

  pub typing_answer_lem : {s : Said} {t : Typed} → read_policy policy ≡ read s → read_typing s.roles evidence ≡ read t → answer_of policy evidence ≡ judged_answer (counts_of s) (table_of t) (typing_verdict s (table_of t))
  unfolding typing_answer typing_verdict
  typing_answer_lem {s} reads over = kind_answer reads (typing_kind s.roles evidence over) ∙ ap (typing_answer (counts_of s) (subject_of s)) over

  pub outcome : Outcome (answer_of policy evidence)
  outcome = go (read_policy policy) refl
    where
      over : (s : Said) → read_policy policy ≡ read s → is_typing evidence ≡ true → (r : Reading Typed) → read_typing s.roles evidence ≡ r → Outcome (answer_of policy evidence)
      over s reads kind (read t) is = subst Outcome (sym (typing_answer_lem reads is)) (typed reads is)
      over s reads kind (refused k n) is = subst Outcome (sym (typing_refused reads kind is)) (no_typing reads kind is)

      kinds : (s : Said) → read_policy policy ≡ read s → (b : Bool) → is_typing evidence ≡ b → Outcome (answer_of policy evidence)
      kinds s reads true kind = over s reads kind (read_typing s.roles evidence) refl
      kinds s reads false kind = subst Outcome (sym (kind_answer reads kind)) (traced reads kind)

      go : (r : Reading Said) → read_policy policy ≡ r → Outcome (answer_of policy evidence)
      go (read s) reads = kinds s reads (is_typing evidence) refl
      go (refused k n) reads = subst Outcome (sym (policy_refused reads)) (no_policy reads)
