-- When `check` refuses, with which number and at which line.
use Rattle.std.specs.Prelude.{ℕ, ◌≤◌, Bool, List, ◌↔◌, ◌≡◌, refl, length, Result, Ok, Err}
use Rattle.std.proofs.Common.{true≢false, inl, inr, subst, ◌∙◌, lit≤}
use Rattle.std.proofs.Math.Path.{ap}
use Rattle.walking.specs.declared.Refusal.{Refusal}
use Rattle.walking.specs.Texts.{Judged}
use Rattle.reading.specs.Policy.{counts_of}
use Rattle.reading.specs.PolicyRefusals.{PolicyRefusal}
use Rattle.reading.specs.PolicyExact.{policy_refusal_exact}
use Rattle.walking.specs.Evidence.{EvidenceRefusal}
use Rattle.typings.specs.TypingText.{table_of}
use Rattle.typings.specs.TypingRefusalExact.{typing_refusal_exact}
use Rattle.traces.specs.TraceRefusalExact.{trace_refusal_exact}
use Rattle.judging.specs.Verdict.{TypingVerdict, typing_verdict}
use Rattle.running.specs.declared.TraceVerdict.{TraceVerdict}
use Rattle.running.specs.Verdict.{trace_refused, trace_verdict}
use Rattle.running.proofs.TraceVerdictExact.{run_refused}
use Rattle.answering.specs.declared.Answer.{Answer}
use Rattle.answering.specs.Answers.{judged_answer, traced_answer, trace_answer, refused_at, answer_of}
use Rattle.answering.specs.CheckRules.{Refused, of_policy, of_typing, of_trace, TextNumber}
use Rattle.answering.proofs.Outcomes.{Outcome, no_policy, no_typing, typed, traced, kind_answer, policy_refused, typing_refused, outcome}

-- ---- the numbers of refusals

-- a number up to 16
low : {k : ℕ} → 10 ≤ k → k ≤ 16 → TextNumber k
low least most = record { least = least; listed = inl most }

-- A policy's refusal has such a number,
pub policy_number : {text : List ℕ} {k n : ℕ} → PolicyRefusal text k n → TextNumber k
policy_number (PolicyRefusal.too_long above) = low (lit≤ tt) (lit≤ tt)
policy_number (PolicyRefusal.malformed at is) = low (lit≤ tt) (lit≤ tt)
policy_number (PolicyRefusal.above_limit at is) = low (lit≤ tt) (lit≤ tt)
policy_number (PolicyRefusal.undeclared at is) = low (lit≤ tt) (lit≤ tt)
policy_number (PolicyRefusal.no_end fits above tail) = low (lit≤ tt) (lit≤ tt)
policy_number (PolicyRefusal.after_end at is) = low (lit≤ tt) (lit≤ tt)

-- and a piece of evidence's.
pub evidence_number : {S : Type 0} {judge : S → List ℕ → Judged S} {formed known within last : S → List ℕ → Bool} {start : S} {text : List ℕ} {k n : ℕ} → EvidenceRefusal judge formed known within last start text k n → TextNumber k
evidence_number (EvidenceRefusal.too_long above) = low (lit≤ tt) (lit≤ tt)
evidence_number (EvidenceRefusal.malformed at is) = low (lit≤ tt) (lit≤ tt)
evidence_number (EvidenceRefusal.misnamed at is) = low (lit≤ tt) (lit≤ tt)
evidence_number (EvidenceRefusal.above_limit at is) = record { least = lit≤ tt; listed = inr refl }
evidence_number (EvidenceRefusal.no_end fits above tail) = low (lit≤ tt) (lit≤ tt)
evidence_number (EvidenceRefusal.after_end at is) = low (lit≤ tt) (lit≤ tt)

-- ---- when the answer is a refusal

-- two refusals that are the same answer have the same number and line
same_refusal : {k l n m : ℕ} (P : ℕ → ℕ → Type 0) → refused_at k n ≡ refused_at l m → P k n → P l m
same_refusal {k} {l} {n} {m} P is holds =
    let one : ◌≡◌ {A = Refusal} (record { number = k; line = n }) (record { number = l; line = m }) = cc in
    let number : k ≡ l = ap (λ (r : Refusal). r.number) one in
    let line : n ≡ m = ap (λ (r : Refusal). r.line) one in
    subst (λ (j : ℕ). P j m) number (subst (P k) line holds)

module _ (policy evidence : List ℕ) where
  refused_told : {a : Answer} {k n : ℕ} → Outcome policy evidence a → a ≡ refused_at k n → Refused policy evidence k n
  unfolding judged_answer traced_answer trace_answer
  refused_told (no_policy {k = k} {n = n} reads) is = same_refusal (Refused policy evidence) is (of_policy ((policy_refusal_exact policy k n).0 reads))
  refused_told (no_typing {s = s} {k = k} {n = n} reads kind over) is = same_refusal (Refused policy evidence) is (of_typing reads kind ((typing_refusal_exact s.roles evidence k n).0 over))
  refused_told {k = k} {n = n} (typed {s = s} {t = t} reads over) is = go (typing_verdict s (table_of t)) is
    where
      go : (v : TypingVerdict) → judged_answer (counts_of s) (table_of t) v ≡ refused_at k n → Refused policy evidence k n
      go (Ok _) e = absurd (true≢false (cc))
      go (Err failure) e = absurd (true≢false (cc))
  refused_told {k = k} {n = n} (traced {s = s} reads kind) is =
      of_trace reads kind ((trace_refusal_exact (length s.assigns) (length s.revokes) s.users evidence k n).0 ((run_refused s evidence k n).0 (go (trace_verdict s evidence) is)))
    where
      go : (v : Result TraceVerdict Refusal) → trace_answer v ≡ refused_at k n → v ≡ trace_refused k n
      go (Ok (TraceVerdict.Attacked steps user name goal)) e = absurd (true≢false (cc))
      go (Ok (TraceVerdict.Broken step)) e = absurd (true≢false (cc))
      go (Ok (TraceVerdict.Short steps)) e = absurd (true≢false (cc))
      go (Err refusal) e = cc

  refused_back : {k n : ℕ} → Refused policy evidence k n → answer_of policy evidence ≡ refused_at k n
  unfolding trace_answer
  refused_back {k} {n} (of_policy refusal) = policy_refused policy evidence ((policy_refusal_exact policy k n).1 refusal)
  refused_back {k} {n} (of_typing {s = s} reads kind refusal) = typing_refused policy evidence reads kind ((typing_refusal_exact s.roles evidence k n).1 refusal)
  refused_back {k} {n} (of_trace {s = s} reads kind refusal) =
      kind_answer policy evidence reads kind
      ∙ ap trace_answer ((run_refused s evidence k n).1 ((trace_refusal_exact (length s.assigns) (length s.revokes) s.users evidence k n).1 refusal))

  -- The answer is a refusal with a number at a line exactly when the policy has it; or the policy is read and the evidence has it, as
  -- a typing where it is one by its first line, and else as a trace.
  pub refused_exact : (k n : ℕ) → answer_of policy evidence ≡ refused_at k n ↔ Refused policy evidence k n
  refused_exact k n = (refused_told (outcome policy evidence), refused_back)

  -- A refusal has a number from 10 to 16, or 21, and so is no verdict.
  pub refused_number : {k n : ℕ} → answer_of policy evidence ≡ refused_at k n → TextNumber k
  refused_number {k} {n} is = go ((refused_exact k n).0 is)
    where
      go : {k n : ℕ} → Refused policy evidence k n → TextNumber k
      go (of_policy refusal) = policy_number refusal
      go (of_typing reads kind refusal) = evidence_number refusal
      go (of_trace reads kind refusal) = evidence_number refusal
