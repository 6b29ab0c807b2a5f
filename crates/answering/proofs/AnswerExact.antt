-- When each verdict is answered, over the texts themselves, and that no policy text earns both SAFE and ATTACKED.
use Rattle.std.specs.Prelude.{ℕ, Bool, true, List, ◌↔◌, ◌≡◌, length, Result, Ok, Err}
use Rattle.std.proofs.Math.Bool.{false}
use Rattle.std.proofs.Common.{true≢false, subst, ◌∙◌}
use Rattle.std.proofs.Math.Path.{refl, sym, ap}
use Rattle.model.specs.Policy.{State, Run, Bad}
use Rattle.model.specs.Typing.{Accepted}
use Rattle.model.specs.Meaning.{meaning}
use Rattle.model.proofs.Safety.{accepted_safe}
use Rattle.tables.specs.declared.Name.{Name}
use Rattle.walking.specs.declared.Refusal.{Refusal}
use Rattle.walking.specs.Texts.{read}
use Rattle.reading.specs.Policy.{Said, policy_of, counts_of, read_policy}
use Rattle.reading.specs.Sound.{read_sound}
use Rattle.typings.specs.TypingText.{Typed, read_typing, table_of}
use Rattle.traces.specs.TraceText.{Traced, read_trace}
use Rattle.typings.specs.Kind.{is_typing}
use Rattle.judging.specs.declared.Part.{Part}
use Rattle.judging.specs.Failures.{FirstFailure}
use Rattle.judging.specs.Verdict.{TypingVerdict, accepted, unproved, typing_verdict, pinned_names}
use Rattle.judging.specs.TypingVerdictExact as judging
use Rattle.running.specs.declared.TraceVerdict.{TraceVerdict}
use Rattle.running.specs.Verdict.{trace_verdict}
use Rattle.running.specs.Says.{Attacked, Broken, Short}
use Rattle.running.proofs.TraceVerdictExact.{attacked_attack}
use Rattle.running.proofs.TraceVerdictExact as running
use Rattle.verdicts.specs.PolicySized.{read_sized}
use Rattle.verdicts.specs.Verdicts as verdicts
use Rattle.answering.specs.declared.Answer.{Answer}
use Rattle.answering.specs.CheckRules.{TypingTexts, TraceTexts, Safe}
use Rattle.answering.specs.Kinds.{trace_kind}
use Rattle.answering.specs.Answers.{judged_answer, traced_answer, trace_answer, answer_of}
use Rattle.answering.proofs.Outcomes.{Outcome, no_policy, no_typing, typed, traced, kind_answer, typing_answer_lem, outcome}

-- ---- the verdict behind an answer

-- the verdict on a typing that an answer tells, and whether it tells one
unfoldable tells_typing : Answer → Bool
tells_typing (Answer.Safe roles assigns revokes goals pinned) = true
tells_typing (Answer.Attacked steps user name goal) = false
tells_typing (Answer.Unproved part number) = true
tells_typing (Answer.Broken step) = false
tells_typing (Answer.Short steps) = false
tells_typing (Answer.Refused refusal) = false

unfoldable typing_told : Answer → TypingVerdict
typing_told (Answer.Safe roles assigns revokes goals pinned) = accepted
typing_told (Answer.Attacked steps user name goal) = accepted
typing_told (Answer.Unproved part number) = unproved part number
typing_told (Answer.Broken step) = accepted
typing_told (Answer.Short steps) = accepted
typing_told (Answer.Refused refusal) = accepted

-- the verdict on a trace that an answer tells, and whether it tells one
unfoldable tells_trace : Answer → Bool
tells_trace (Answer.Safe roles assigns revokes goals pinned) = false
tells_trace (Answer.Attacked steps user name goal) = true
tells_trace (Answer.Unproved part number) = false
tells_trace (Answer.Broken step) = true
tells_trace (Answer.Short steps) = true
tells_trace (Answer.Refused refusal) = false

unfoldable trace_told : Answer → TraceVerdict
trace_told (Answer.Safe roles assigns revokes goals pinned) = TraceVerdict.Short 0
trace_told (Answer.Attacked steps user name goal) = TraceVerdict.Attacked steps user name goal
trace_told (Answer.Unproved part number) = TraceVerdict.Short 0
trace_told (Answer.Broken step) = TraceVerdict.Broken step
trace_told (Answer.Short steps) = TraceVerdict.Short steps
trace_told (Answer.Refused refusal) = TraceVerdict.Short 0

-- ---- what an answer says of the texts

module _ (policy evidence : List ℕ) where
  -- an answer that tells a typing's verdict is that of a typing
  typing_told_lem : {a : Answer} → Outcome policy evidence a → tells_typing a ≡ true → TypingTexts policy evidence (λ s t. typing_verdict s (table_of t) ≡ typing_told a)
  unfolding tells_typing typing_told traced_answer trace_answer judged_answer
  typing_told_lem (no_policy reads) tells = absurd (true≢false (sym tells))
  typing_told_lem (no_typing reads kind over) tells = absurd (true≢false (sym tells))
  typing_told_lem (traced {s = s} reads kind) tells = absurd (true≢false (sym tells ∙ none (trace_verdict s evidence)))
    where
      none : (v : Result TraceVerdict Refusal) → tells_typing (trace_answer v) ≡ false
      none (Ok (TraceVerdict.Attacked steps user name goal)) = refl
      none (Ok (TraceVerdict.Broken step)) = refl
      none (Ok (TraceVerdict.Short steps)) = refl
      none (Err refusal) = refl
  typing_told_lem (typed {s = s} {t = t} reads over) tells = record { said = s; typing = t; reads = reads; over = over; holds = same (typing_verdict s (table_of t)) }
    where
      same : (v : TypingVerdict) → v ≡ typing_told (judged_answer (counts_of s) (table_of t) v)
      same (Ok _) = refl
      same (Err failure) = refl

  -- an answer that tells a trace's verdict is that of a trace
  trace_told_lem : {a : Answer} → Outcome policy evidence a → tells_trace a ≡ true → TraceTexts policy (λ s. trace_verdict s evidence ≡ Ok (trace_told a))
  unfolding tells_trace trace_told traced_answer trace_answer judged_answer
  trace_told_lem (no_policy reads) tells = absurd (true≢false (sym tells))
  trace_told_lem (no_typing reads kind over) tells = absurd (true≢false (sym tells))
  trace_told_lem (typed {s = s} {t = t} reads over) tells = absurd (true≢false (sym tells ∙ none (typing_verdict s (table_of t))))
    where
      none : (v : TypingVerdict) → tells_trace (judged_answer (counts_of s) (table_of t) v) ≡ false
      none (Ok _) = refl
      none (Err failure) = refl
  trace_told_lem (traced {s = s} reads kind) tells = record { said = s; reads = reads; holds = same (trace_verdict s evidence) tells }
    where
      same : (v : Result TraceVerdict Refusal) → tells_trace (trace_answer v) ≡ true → v ≡ Ok (trace_told (trace_answer v))
      same (Ok (TraceVerdict.Attacked steps user name goal)) tells = refl
      same (Ok (TraceVerdict.Broken step)) tells = refl
      same (Ok (TraceVerdict.Short steps)) tells = refl
      same (Err refusal) tells = absurd (true≢false (sym tells))

  -- ---- typings

  -- what holds of the texts leads to what follows from it
  typing_so : {A B : Said → Typed → Type 0} → ((s : Said) (t : Typed) → read_policy policy ≡ read s → read_typing s.roles evidence ≡ read t → A s t → B s t) → TypingTexts policy evidence A → TypingTexts policy evidence B
  typing_so so texts = record {
    said = texts.said;
    typing = texts.typing;
    reads = texts.reads;
    over = texts.over;
    holds = so texts.said texts.typing texts.reads texts.over texts.holds;
  }

  -- The answer is SAFE with its five values exactly when both texts are read, the evidence as a typing, it is accepted, and the
  -- values are the counts of the policy and the pinned names of the typing.
  pub safe_exact : (r a v g p : ℕ) → answer_of policy evidence ≡ Answer.Safe r a v g p ↔ TypingTexts policy evidence (Safe r a v g p)
  unfolding tells_typing typing_told judged_answer counts_of
  safe_exact r a v g p = (
    λ is. typing_so (λ s t reads over judged. counted s t reads over is (judged ∙ ap typing_told is)) (typing_told_lem (outcome policy evidence) (ap tells_typing is)),
    λ texts.
        let safe = texts.holds in
        typing_answer_lem policy evidence texts.reads texts.over
        ∙ ap (judged_answer (counts_of texts.said) (table_of texts.typing)) ((verdicts.safe_exact policy evidence texts.reads texts.over).1 safe.accepted)
        ∙ cc,
  )
    where
      counted : (s : Said) (t : Typed) → read_policy policy ≡ read s → read_typing s.roles evidence ≡ read t → answer_of policy evidence ≡ Answer.Safe r a v g p → typing_verdict s (table_of t) ≡ accepted → Safe r a v g p s t
      counted s t reads over is accepted =
          let values : Answer.Safe (length s.roles) (length s.assigns) (length s.revokes) (length s.goals) (pinned_names (table_of t) (length s.roles)) ≡ Answer.Safe r a v g p
          = sym (ap (judged_answer (counts_of s) (table_of t)) accepted) ∙ sym (typing_answer_lem policy evidence reads over) ∙ is in
          record {
            accepted = (verdicts.safe_exact policy evidence reads over).0 accepted;
            roles_counted = cc;
            assigns_counted = cc;
            revokes_counted = cc;
            goals_counted = cc;
            pinned_counted = cc;
          }

  -- Then no run of the policy that is read reaches a bad state.
  pub safe_runs : {r a v g p : ℕ} {s : Said} {τ : State} → answer_of policy evidence ≡ Answer.Safe r a v g p → read_policy policy ≡ read s → Run (policy_of s) s.holdings τ → Bad (policy_of s).goals τ → ⊥
  safe_runs {r} {a} {v} {g} {p} {s} is reads run bad =
      let texts = (safe_exact r a v g p).0 is in
      let one : read texts.said ≡ read s = sym texts.reads ∙ reads in
      let same : texts.said ≡ s = cc in
      accepted_safe (subst (λ (said : Said). Accepted (meaning (table_of texts.typing)) (policy_of said) said.holdings) same texts.holds.accepted) run bad

  -- The answer is UNPROVED with a part and a number exactly when both texts are read, the evidence as a typing, and its first failure is there.
  pub unproved_first : (part : Part) (number : ℕ) → answer_of policy evidence ≡ Answer.Unproved part number
      ↔ TypingTexts policy evidence (λ s t. FirstFailure (meaning (table_of t)) (policy_of s) s.holdings part number)
  unfolding judged_answer tells_typing typing_told
  unproved_first part number = (
    λ is. typing_so (λ s t reads over judged. (first reads over).0 (judged ∙ ap typing_told is)) (typing_told_lem (outcome policy evidence) (ap tells_typing is)),
    λ texts.
        typing_answer_lem policy evidence texts.reads texts.over
        ∙ ap (judged_answer (counts_of texts.said) (table_of texts.typing)) ((first texts.reads texts.over).1 texts.holds),
  )
    where
      first : {s : Said} {t : Typed} → read_policy policy ≡ read s → read_typing s.roles evidence ≡ read t
          → typing_verdict s (table_of t) ≡ unproved part number ↔ FirstFailure (meaning (table_of t)) (policy_of s) s.holdings part number
      first {s} reads over = judging.unproved_first s (read_sized policy reads) (verdicts.texts_laid policy evidence reads over) part number

  -- ---- traces

  -- evidence that is read as a trace is no typing
  read_kind : (s : Said) {t : Traced} → read_trace (length s.assigns) (length s.revokes) s.users evidence ≡ read t → is_typing evidence ≡ false
  read_kind s reads = trace_kind (length s.assigns) (length s.revokes) s.users evidence reads

  -- an answer that tells a trace's verdict is given exactly when that verdict's words hold
  trace_exact : {a : Answer} {Holds : Said → Type 0} → tells_trace a ≡ true → traced_answer (trace_told a) ≡ a
      → ((s : Said) → Holds s → is_typing evidence ≡ false) → ((s : Said) → read_policy policy ≡ read s → trace_verdict s evidence ≡ Ok (trace_told a) ↔ Holds s) → answer_of policy evidence ≡ a ↔ TraceTexts policy Holds
  unfolding trace_answer
  trace_exact {a} {Holds} tells same kind exact = (λ is. told is (trace_told_lem (outcome policy evidence) (ap tells_trace is ∙ tells)), back)
    where
      told : answer_of policy evidence ≡ a → TraceTexts policy (λ s. trace_verdict s evidence ≡ Ok (trace_told (answer_of policy evidence))) → TraceTexts policy Holds
      told is texts = record { said = texts.said; reads = texts.reads; holds = (exact texts.said texts.reads).0 (texts.holds ∙ ap (λ (b : Answer). Ok (trace_told b)) is) }

      back : TraceTexts policy Holds → answer_of policy evidence ≡ a
      back texts = kind_answer policy evidence texts.reads (kind texts.said texts.holds) ∙ ap trace_answer ((exact texts.said texts.reads).1 texts.holds) ∙ same

  -- ATTACKED with its values exactly when the evidence is read as a trace whose steps are a run that ends bad: user and goal are the first,
  -- and the name is the user's.
  pub attacked_exact : (n u : ℕ) (m : Name) (g : ℕ) → answer_of policy evidence ≡ Answer.Attacked n u m g ↔ TraceTexts policy (λ s. Attacked s evidence n u m g)
  unfolding tells_trace trace_told traced_answer
  attacked_exact n u m g =
      trace_exact refl refl (λ s a. read_kind s a.reads) (λ s reads. running.attacked_exact s (read_sized policy reads) (read_sound policy reads).people evidence n u m g)

  -- BROKEN with a number exactly when the evidence is read as a trace and the step with that number is the first that is none.
  pub broken_first : (n : ℕ) → answer_of policy evidence ≡ Answer.Broken n ↔ TraceTexts policy (λ s. Broken s evidence n)
  unfolding tells_trace trace_told traced_answer
  broken_first n = trace_exact refl refl (λ s b. read_kind s b.reads) (λ s reads. running.broken_first s (read_sized policy reads) evidence n)

  -- SHORT with a number exactly when the evidence is read as a trace of that many steps, a run that does not end bad.
  pub short_exact : (n : ℕ) → answer_of policy evidence ≡ Answer.Short n ↔ TraceTexts policy (λ s. Short s evidence n)
  unfolding tells_trace trace_told traced_answer
  short_exact n = trace_exact refl refl (λ s b. read_kind s b.reads) (λ s reads. running.short_exact s (read_sized policy reads) evidence n)

-- No policy text has one evidence that earns SAFE and another that earns ATTACKED.
pub never_both : (policy typing trace : List ℕ) {r a v g p n u : ℕ} {m : Name} {h : ℕ} → answer_of policy typing ≡ Answer.Safe r a v g p → answer_of policy trace ≡ Answer.Attacked n u m h → ⊥
never_both policy typing trace {n = n} {u = u} {m = m} {h = h} safe attacked =
    let texts = (attacked_exact policy trace n u m h).0 attacked in
    let attack = attacked_attack texts.holds in
    safe_runs policy typing safe texts.reads attack.run attack.bad
