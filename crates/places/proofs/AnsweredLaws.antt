-- The refusal of two texts is the one that their answer is.
use Rattle.std.specs.Prelude.{ℕ, Bool, Option, Some, None, List, ◌≡◌, length, Ok, Err}
use Rattle.std.proofs.Math.Bool.{true, false}
use Rattle.std.proofs.Math.Path.{refl, sym, ap}
use Rattle.std.proofs.Common.{subst, ◌∙◌}
use Rattle.walking.specs.Texts.{Reading, read, refused}
use Rattle.reading.specs.Policy.{Said, counts_of, policy_of}
use Rattle.typings.specs.Kind.{is_typing}
use Rattle.typings.specs.TypingText.{table_of}
use Rattle.traces.specs.TraceText.{Traced, read_trace}
use Rattle.steps.specs.declared.Found.{Found}
use Rattle.steps.specs.Tests.{first_bad}
use Rattle.steps.specs.Traces.{Ran, broken, ran, run_of}
use Rattle.judging.specs.Verdict.{TypingVerdict, typing_verdict}
use Rattle.running.specs.Verdict.{last_verdict, ran_verdict, read_verdict, trace_verdict}
use Rattle.answering.specs.declared.Answer.{Answer}
use Rattle.answering.specs.Answers.{judged_answer, traced_answer, trace_answer, answer_of}
use Rattle.answering.specs.Kinds.{typing_kind}
use Rattle.answering.proofs.Outcomes.{Outcome, no_policy, no_typing, typed, traced, outcome}
use Rattle.walking.specs.declared.Refusal.{Refusal}
use Rattle.places.specs.Place.{told, refusal_as, refusal_of, bad_place, bad_line}
use Rattle.places.specs.PlaceLaws.{after_refused, after_read, typing_refused}
use Rattle.places.specs.BadLines.{BadAt}
use Rattle.places.proofs.BadLineExact.{bad_line_exact}
use Rattle.places.specs.Answered.{refusal_in}

module _ (policy evidence : List ℕ) where
  -- the evidence is read as its kind says
  by_kind : {b : Bool} → is_typing evidence ≡ b → refusal_of policy evidence ≡ refusal_as b policy evidence
  by_kind kind = ap (λ (b : Bool). refusal_as b policy evidence) kind

  -- a trace is refused as its verdict says
  trace_refusal : (s : Said) (r : Reading Traced) → told r ≡ refusal_in (trace_answer (read_verdict s r))
  unfolding told refusal_in traced_answer trace_answer read_verdict ran_verdict last_verdict
  trace_refusal s (refused number line) = refl
  trace_refusal s (read t) = ranned (run_of (policy_of s) s.holdings t.steps)
    where
      found : (o : Option Found) → None ≡ refusal_in (traced_answer (last_verdict (length t.steps) t.names o))
      found None = refl
      found (Some f) = refl

      ranned : (x : Ran) → None ≡ refusal_in (traced_answer (ran_verdict (length t.steps) t.names s.goals x))
      ranned (broken number) = refl
      ranned (ran last) = found (first_bad last s.goals)

  told_place : {a : Answer} → Outcome policy evidence a → refusal_of policy evidence ≡ refusal_in a
  unfolding refusal_in told judged_answer trace_verdict
  told_place (no_policy reads) = sym (after_refused (is_typing evidence) policy evidence reads)
  told_place (no_typing reads kind over) = by_kind kind ∙ typing_refused policy evidence reads over
  told_place (typed {s = s} {t = t} reads over) =
      by_kind (typing_kind s.roles evidence over) ∙ sym (after_read true policy evidence reads) ∙ ap told over ∙ go (typing_verdict s (table_of t))
    where
      go : (v : TypingVerdict) → None ≡ refusal_in (judged_answer (counts_of s) (table_of t) v)
      go (Ok _) = refl
      go (Err failure) = refl
  told_place (traced {s = s} reads kind) =
      by_kind kind ∙ sym (after_read false policy evidence reads) ∙ trace_refusal s (read_trace (length s.assigns) (length s.revokes) s.users evidence)

  -- The bad line is looked for at the number and line of the answer, and nowhere for an answer that is no refusal.
  pub refused_place : refusal_of policy evidence ≡ refusal_in (answer_of policy evidence)
  refused_place = told_place (outcome policy evidence)

  -- The bad line is that line of that text by which the answer refuses, and the empty part at the policy's start for a missing `end`
  -- and for every other answer.
  pub bad_line_told : BadAt policy evidence (refusal_in (answer_of policy evidence)) (bad_place policy evidence) (bad_line policy evidence)
  bad_line_told = subst (λ (r : Option Refusal). BadAt policy evidence r (bad_place policy evidence) (bad_line policy evidence)) refused_place (bad_line_exact policy evidence)
