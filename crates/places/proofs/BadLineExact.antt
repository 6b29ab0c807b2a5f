-- The bad line is the line of the refusal's number, in the text that the refusal speaks of.
use Rattle.std.specs.Prelude.{ℕ, ◌+◌, ◌-◌, ◌≤◌, ◌<◌, Bool, Option, Some, None, List, ◌⊎◌, ◌≡◌, take, drop}
use Rattle.std.proofs.Math.Bool.{true, false}
use Rattle.std.proofs.Common.{inl, inr, subst, ◌∙◌, lit≤, lit<, arith}
use Rattle.std.proofs.Math.Path.{refl, sym, ap, subst⁻¹}
use borrow.Author.Tests.{lt-leb, le-leb}
use Rattle.std.proofs.Math.Dec.{leb}
use Rattle.std.proofs.Math.ListN.{length}
use Rattle.text.specs.Pieces.{part}
use Rattle.walking.specs.Texts.{Judged, Reading, read, refused}
use Rattle.walking.specs.Evidence.{EvidenceRefusal}
use Rattle.walking.specs.Evidence as evidences
use Rattle.reading.specs.Policy.{Said, read_policy}
use Rattle.reading.specs.PolicyRefusals.{PolicyRefusal}
use Rattle.reading.specs.PolicyExact.{policy_refusal_exact}
use Rattle.reading.specs.PolicyRefusals as policies
use Rattle.typings.specs.Kind.{is_typing}
use Rattle.typings.specs.TypingText.{read_typing}
use Rattle.typings.specs.TypingRefusalExact.{typing_refusal_exact}
use Rattle.traces.specs.TraceText.{read_trace}
use Rattle.traces.specs.TraceRefusalExact.{trace_refusal_exact}
use Rattle.walking.specs.declared.Refusal.{Refusal}
use Rattle.places.specs.declared.Span.{Span}
use Rattle.places.specs.declared.BadPlace.{BadPlace}
use Rattle.places.specs.Place.{told, refusal_after, refusal_as, refusal_of, typing_refusal_of, no_line, bad_span, no_place, placed, place_of, bytes_at, bad_place, bad_line, bad_typing_place, bad_typing_line}
use Rattle.places.specs.PlaceLaws.{line_none, line_above, line_some, bad_none, bad_policy, bad_evidence, place_told}
use Rattle.places.specs.BadLines.{line_at, start_of, HasLine, PastLast, OfPolicy, OfEvidence, at_line, OfNeither, line_place, BadAt}
use Rattle.places.specs.BadLines as bad
use Rattle.places.specs.LinePlaces.{some_piece, line_found, past_lost}
use Rattle.places.specs.LineNumbers.{line_judged, line_left, line_after}

-- ---- the place of a refusal

-- the numbers of the policy are below those of the evidence
below_evidence : {k : ℕ} → OfPolicy k → k < 14
below_evidence bad.OfPolicy.malformed = omega arith
below_evidence bad.OfPolicy.above_limit = omega arith
below_evidence bad.OfPolicy.undeclared = omega arith

from_evidence : {k : ℕ} → OfEvidence k → (14 ≤ k) × (k ≤ 16)
from_evidence bad.OfEvidence.malformed = (lit≤ tt, lit≤ tt)
from_evidence bad.OfEvidence.misnamed = (lit≤ tt, lit≤ tt)

-- a number past the last line is one from 1 on
past_some : {n : ℕ} {text : List ℕ} → PastLast n text → n ≡ 0 → ⊥
past_some {n} {text} past none = omega (arith, some_piece text, past.last)

-- the bytes at a line's place
line_bytes : (n : ℕ) (text : List ℕ) → HasLine n text → part text (start_of n text) (start_of n text + length (line_at n text)) ≡ line_at n text
line_bytes n text has =
    let long : start_of n text + length (line_at n text) - start_of n text ≡ length (line_at n text) = omega arith in
    ap (λ (k : ℕ). take k (drop (start_of n text) text)) long ∙ (line_found n text has).bytes

module _ (policy evidence : List ℕ) where
  -- what is to be shown of a refusal
  abbrev Bad : Option Refusal → Type 0
  Bad r = BadAt policy evidence r (place_of policy evidence r) (bytes_at policy evidence (place_of policy evidence r))

  -- by its place
  bad_at : (r : Option Refusal) {place : BadPlace} {line : List ℕ} → place_of policy evidence r ≡ place → bytes_at policy evidence place ≡ line → BadAt policy evidence r place line → Bad r
  bad_at r {place} at bytes is =
      subst⁻¹ (λ (p : BadPlace). BadAt policy evidence r p (bytes_at policy evidence p)) at
      (subst⁻¹ (λ (l : List ℕ). BadAt policy evidence r place l) bytes is)

  -- the place, by the span
  place_by : (r : Refusal) {s : Option Span} → bad_span policy evidence r ≡ s → place_of policy evidence (Some r) ≡ placed (leb 14 r.number) s
  place_by r span = sym (place_told policy evidence r (sym span))

  nowhere : (r : Refusal) → bad_span policy evidence r ≡ None → place_of policy evidence (Some r) ≡ no_place
  unfolding placed
  nowhere r span = place_by r span

  of_policy : {k n : ℕ} → OfPolicy k → HasLine n policy ⊎ PastLast n policy → Bad (at_line k n)
  unfolding line_place placed no_place
  of_policy {k} {n} of (inl has) =
      let r : Refusal = record { number = k; line = n } in
      let low : leb 14 k ≡ false = lt-leb 14 k (below_evidence of) in
      let span = sym (bad_policy policy evidence r (line_some r (λ none. omega (arith, has.from_one)) (omega (arith, below_evidence of))) (below_evidence of)) ∙ (line_found n policy has).span in
      bad_at (Some r) (place_by r span ∙ ap (λ (b : Bool). record { evidence = b; from = start_of n policy; to = start_of n policy + length (line_at n policy) }) low) (line_bytes n policy has) (bad.BadAt.in_policy of has)
  of_policy {k} {n} of (inr past) =
      let r : Refusal = record { number = k; line = n } in
      bad_at (Some r) (nowhere r (sym (bad_policy policy evidence r (line_some r (past_some past) (omega (arith, below_evidence of))) (below_evidence of)) ∙ past_lost n policy past)) refl (bad.BadAt.past_policy of past)

  of_evidence : {k n : ℕ} → OfEvidence k → HasLine n evidence ⊎ PastLast n evidence → Bad (at_line k n)
  unfolding line_place placed no_place
  of_evidence {k} {n} of (inl has) =
      let r : Refusal = record { number = k; line = n } in
      let high : leb 14 k ≡ true = le-leb 14 k (from_evidence of).0 in
      let span = sym (bad_evidence policy evidence r (line_some r (λ none. omega (arith, has.from_one)) (from_evidence of).1) (from_evidence of).0) ∙ (line_found n evidence has).span in
      bad_at (Some r) (place_by r span ∙ ap (λ (b : Bool). record { evidence = b; from = start_of n evidence; to = start_of n evidence + length (line_at n evidence) }) high) (line_bytes n evidence has) (bad.BadAt.in_evidence of has)
  of_evidence {k} {n} of (inr past) =
      let r : Refusal = record { number = k; line = n } in
      bad_at (Some r) (nowhere r (sym (bad_evidence policy evidence r (line_some r (past_some past) (from_evidence of).1) (from_evidence of).0) ∙ past_lost n evidence past)) refl (bad.BadAt.past_evidence of past)

  no_bad : (r : Refusal) → no_line r ≡ true → place_of policy evidence (Some r) ≡ no_place
  no_bad r none = nowhere r (sym (bad_none policy evidence r none))

  no_bad_line : {r : Option Refusal} → OfNeither r → place_of policy evidence r ≡ no_place
  unfolding place_of
  no_bad_line bad.OfNeither.none = refl
  no_bad_line bad.OfNeither.policy_long = no_bad (record { number = 10; line = 0 }) (line_none _ refl)
  no_bad_line bad.OfNeither.evidence_long = no_bad (record { number = 14; line = 0 }) (line_none _ refl)
  no_bad_line (bad.OfNeither.above_limit {n}) = no_bad (record { number = 21; line = n }) (line_above _ (lit< tt))

  of_neither : {r : Option Refusal} → OfNeither r → Bad r
  unfolding no_place
  of_neither of = bad_at _ (no_bad_line of) refl (bad.BadAt.no_line_lem of)

  -- ---- each refusal of a policy, and of a piece of evidence

  policy_refusal : {k n : ℕ} → PolicyRefusal policy k n → Bad (at_line k n)
  policy_refusal (policies.PolicyRefusal.too_long above) = of_neither bad.OfNeither.policy_long
  policy_refusal (policies.PolicyRefusal.malformed at fault) = of_policy bad.OfPolicy.malformed (inl (line_judged at).1)
  policy_refusal (policies.PolicyRefusal.above_limit at fault) = of_policy bad.OfPolicy.above_limit (inl (line_judged at).1)
  policy_refusal (policies.PolicyRefusal.undeclared at fault) = of_policy bad.OfPolicy.undeclared (inl (line_judged at).1)
  policy_refusal (policies.PolicyRefusal.no_end fits up tail) = of_policy bad.OfPolicy.malformed (line_left up tail)
  policy_refusal (policies.PolicyRefusal.after_end at end) = of_policy bad.OfPolicy.malformed (inl (line_after at))

  evidence_refusal : {S : Type 0} {judge : S → List ℕ → Judged S} {formed known within last : S → List ℕ → Bool} {start : S} {k n : ℕ} → EvidenceRefusal judge formed known within last start evidence k n → Bad (at_line k n)
  evidence_refusal (evidences.too_long above) = of_neither bad.OfNeither.evidence_long
  evidence_refusal (evidences.malformed at fault) = of_evidence bad.OfEvidence.malformed (inl (line_judged at).1)
  evidence_refusal (evidences.misnamed at fault) = of_evidence bad.OfEvidence.misnamed (inl (line_judged at).1)
  evidence_refusal (evidences.above_limit at fault) = of_neither bad.OfNeither.above_limit
  evidence_refusal (evidences.no_end fits up tail) = of_evidence bad.OfEvidence.malformed (line_left up tail)
  evidence_refusal (evidences.after_end at end) = of_evidence bad.OfEvidence.malformed (inl (line_after at))

  -- of a text that is read or refused
  reading_told : {S : Type 0} (r : Reading S) → ((k n : ℕ) → r ≡ refused k n → Bad (at_line k n)) → Bad (told r)
  unfolding told
  reading_told (read s) refusal = of_neither bad.OfNeither.none
  reading_told (refused k n) refusal = refusal k n refl

  -- read as a typing or as a trace
  bad_as : (typing : Bool) → Bad (refusal_as typing policy evidence)
  unfolding refusal_as refusal_after
  bad_as typing = go (read_policy policy) refl typing
    where
      go : (r : Reading Said) → read_policy policy ≡ r → (typing : Bool) → Bad (refusal_after r typing evidence)
      go (read s) is true = reading_told (read_typing s.roles evidence) (λ k n is. evidence_refusal ((typing_refusal_exact s.roles evidence k n).0 is))
      go (read s) is false =
          reading_told (read_trace (length s.assigns) (length s.revokes) s.users evidence) (λ k n is. evidence_refusal ((trace_refusal_exact (length s.assigns) (length s.revokes) s.users evidence k n).0 is))
      go (refused k n) is typing = policy_refusal ((policy_refusal_exact policy k n).0 is)

  -- The bad line of a policy and a piece of evidence is the line of their refusal's number,
  pub bad_line_exact : BadAt policy evidence (refusal_of policy evidence) (bad_place policy evidence) (bad_line policy evidence)
  unfolding bad_line
  bad_line_exact = bad_as (is_typing evidence)

  -- and that of a policy and a text where a typing is wanted is the line of theirs.
  pub bad_typing_line_exact : BadAt policy evidence (typing_refusal_of policy evidence) (bad_typing_place policy evidence) (bad_typing_line policy evidence)
  unfolding bad_typing_line
  bad_typing_line_exact = bad_as true

  -- Where a typing is wanted and the refusal is known, its bad line is the line of that number.
  pub bad_typing_line_of : {k n : ℕ} → typing_refusal_of policy evidence ≡ at_line k n → BadAt policy evidence (at_line k n) (bad_typing_place policy evidence) (bad_typing_line policy evidence)
  bad_typing_line_of is = subst (λ (r : Option Refusal). BadAt policy evidence r (bad_typing_place policy evidence) (bad_typing_line policy evidence)) is bad_typing_line_exact
