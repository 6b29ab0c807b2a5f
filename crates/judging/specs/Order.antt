-- Verdicts one after the other: the first that is not accepted stands.
use Prim.Native.Nat.{ℕ, zero, suc}
use Rattle.std.specs.Prelude.{Bool, true, ◌↔◌, ◌⊎◌, ◌≡◌, length, Ok, Err}
use Rattle.std.proofs.Common.{true≢false, inl, inr, ⊎_elim, sym, ap, ap₂, ◌∙◌, arith}
use mathlib.Core.List.{List, Memᴰ as Listed}
use Rattle.std.proofs.Math.Path.{refl, subst}
use Rattle.judging.specs.declared.Part.{Part}
use Rattle.judging.specs.declared.Failure.{Failure}
use Rattle.judging.specs.Verdict.{TypingVerdict, accepted, unproved, first_failing, failing_part, and_then}
use Rattle.judging.specs.Failing.{first_bad_by, none_failing, first_failing_lem}
use Rattle.judging.specs.Failures.{FailsAt}

-- ---- a verdict and the next one

-- a failure stands, whatever comes after it
pub then_stops : {verdict one : TypingVerdict} (next : TypingVerdict) {failure : Failure} → verdict ≡ Err failure → verdict ≡ one → verdict ≡ and_then one next
unfolding and_then
then_stops next stops is = stops ∙ ap (λ (v : TypingVerdict). and_then v next) (sym stops ∙ is)

-- where the first is accepted, the next one stands
pub then_goes : {verdict one result next : TypingVerdict} → verdict ≡ accepted → verdict ≡ one → result ≡ next → result ≡ and_then one next
unfolding and_then
then_goes {next = next} passes is stands = stands ∙ ap (λ (v : TypingVerdict). and_then v next) (sym passes ∙ is)

-- accepted is no failure
accepted_or : {failure : Failure} → accepted ≡ Err failure → ⊥
accepted_or e = true≢false (cc)

-- Both are accepted exactly when the whole is.
pub both_accepted : (one next : TypingVerdict) → and_then one next ≡ accepted ↔ ((one ≡ accepted) × (next ≡ accepted))
unfolding and_then
both_accepted (Ok tt) next = (λ e. (refl, e), λ both. both.1)
both_accepted (Err failure) next = (λ e. absurd (accepted_or (sym e)), λ both. both.0)

-- The first fails, or it is accepted and the next one fails.
pub one_fails : (one next : TypingVerdict) (part : Part) (number : ℕ)
    → and_then one next ≡ unproved part number ↔ ((one ≡ unproved part number) ⊎ ((one ≡ accepted) × (next ≡ unproved part number)))
unfolding and_then
one_fails (Ok tt) next part number = (λ e. inr (refl, e), ⊎_elim (λ e. absurd (accepted_or e)) (λ both. both.1))
one_fails (Err failure) next part number = (inl, ⊎_elim (λ e. e) (λ both. absurd (accepted_or (sym both.0))))

-- ---- the verdict on one part

part_none : (part : Part) (number : ℕ) → failing_part part number ≡ accepted ↔ (number ≡ 0)
unfolding failing_part
part_none part zero = (λ e. refl, λ e. refl)
part_none part (suc number) = (λ e. absurd (accepted_or (sym e)), λ e. absurd (omega (arith, e)))

-- the part and the number of a failure; of none, those that are given
part_in : Part → TypingVerdict → Part
part_in none (Ok _) = none
part_in none (Err failure) = failure.part

number_in : ℕ → TypingVerdict → ℕ
number_in none (Ok _) = none
number_in none (Err failure) = failure.number

-- A part whose test says exactly which of its elements are good.
module _ (part : Part) {A : Type 0} {test : A → Bool} {Good : A → Type 0} {xs : List A} (exact : (x : A) → Listed x xs → test x ≡ true ↔ Good x) where
  -- It is accepted exactly when all its elements are good.
  pub part_accepted : failing_part part (first_failing test xs) ≡ accepted ↔ ((x : A) → Listed x xs → Good x)
  part_accepted = (
    λ e x m. (exact x m).0 ((none_failing test xs).0 ((part_none part (first_failing test xs)).0 e) x m),
    λ all. (part_none part (first_failing test xs)).1 ((none_failing test xs).1 (λ x m. (exact x m).1 (all x m))),
  )

  -- It fails with a number exactly when that number's element is the first that is not good.
  pub part_fails : (other : Part) (number : ℕ) → failing_part part (first_failing test xs) ≡ unproved other number ↔ ((part ≡ other) × FailsAt Good xs number)
  unfolding failing_part part_in number_in
  part_fails other number = (λ e. told (first_failing test xs) refl e, λ both. found both.0 both.1)
    where
      told : (k : ℕ) → first_failing test xs ≡ k → failing_part part k ≡ unproved other number → (part ≡ other) × FailsAt Good xs number
      told zero is e = absurd (accepted_or e)
      told (suc k) is e =
          let same : number_in (suc k) (failing_part part (suc k)) ≡ number = ap (number_in (suc k)) e in
          (ap (part_in part) e, subst (FailsAt Good xs) same (first_bad_by exact ((first_failing_lem test k xs).0 is)))

      found : part ≡ other → FailsAt Good xs number → failing_part part (first_failing test xs) ≡ unproved other number
      found same f =
          let one_more : number ≡ suc (length f.before) = omega (arith, f.numbered) in
          let is = (first_failing_lem test (length f.before) xs).1 (first_bad_by (λ x m. ((exact x m).1, (exact x m).0)) (subst (FailsAt Good xs) one_more f)) in
          ap (failing_part part) is ∙ ap₂ unproved same (sym one_more)
