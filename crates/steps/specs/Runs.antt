-- Going through steps, one more at the end: what the run so far says of the run with more steps.
use Rattle.std.specs.Prelude.{ℕ, zero, suc, Bool, ◌≡◌, length}
use Rattle.std.proofs.Math.Bool.{true, false}
use mathlib.Core.List.{List, [], ◌∷◌, ◌++◌}
use Rattle.std.proofs.Math.Path.{refl, ap}
use Rattle.std.proofs.Common.{sym, ◌∙◌, arith}
use Rattle.model.specs.Policy.{Policy, State}
use Rattle.steps.specs.declared.Step.{Step as TraceStep}
use Rattle.steps.specs.Traces.{possible, after, Ran, broken, ran, later, run_of}

-- ---- the two answers

pub ran_same : {σ τ : State} → ran σ ≡ ran τ → σ ≡ τ
ran_same e = cc

pub broken_same : {m n : ℕ} → broken m ≡ broken n → m ≡ n
broken_same e = cc

pub broken_ran : {n : ℕ} {τ : State} → broken n ≡ ran τ → ⊥
broken_ran e =
    let none : ◌≡◌ {A = ℕ} 0 1 = cc in
    omega arith

-- a run with one step more before it ends where it ends without
pub later_ran : (r : Ran) {τ : State} → later r ≡ ran τ → r ≡ ran τ
unfolding later
later_ran (broken n) e = absurd (broken_ran e)
later_ran (ran last) e = e

-- and breaks one step later
pub later_broken : (r : Ran) {n : ℕ} → later r ≡ broken n → (m : ℕ) × (n ≡ suc m) × (r ≡ broken m)
unfolding later
later_broken (broken m) e = (m, sym (broken_same e), refl)
later_broken (ran last) e = absurd (broken_ran (sym e))

-- with so many steps more before the first
later_by : ℕ → Ran → Ran
later_by zero r = r
later_by (suc n) r = later (later_by n r)

by_ran : (n : ℕ) (τ : State) → later_by n (ran τ) ≡ ran τ
unfolding later_by later
by_ran zero τ = refl
by_ran (suc n) τ = ap later (by_ran n τ)

by_broken : (n : ℕ) → later_by n (broken 1) ≡ broken (suc n)
unfolding later_by later
by_broken zero = refl
by_broken (suc n) = ap later (by_broken n)

module _ (P : Policy) where
  -- ---- the first step

  pub run_on : (σ : State) (step : TraceStep) (steps : List TraceStep) → possible P σ step ≡ true
      → run_of P σ (step ∷ steps) ≡ later (run_of P (after P σ step) steps)
  unfolding run_of
  run_on σ step steps e = rw e

  pub run_off : (σ : State) (step : TraceStep) (steps : List TraceStep) → possible P σ step ≡ false → run_of P σ (step ∷ steps) ≡ broken 1
  unfolding run_of
  run_off σ step steps e = rw e

  -- ---- more steps

  joined : (σ : State) {τ : State} (steps more : List TraceStep) → run_of P σ steps ≡ ran τ → run_of P σ (steps ++ more) ≡ later_by (length steps) (run_of P τ more)
  unfolding run_of later_by
  joined σ [] more e = ap (λ (υ : State). run_of P υ more) (ran_same e)
  joined σ {τ} (step ∷ steps) more e = go (possible P σ step) refl (joined (after P σ step) steps more)
    where
      go : (b : Bool) → possible P σ step ≡ b
          → (run_of P (after P σ step) steps ≡ ran τ → run_of P (after P σ step) (steps ++ more) ≡ later_by (length steps) (run_of P τ more))
          → run_of P σ (step ∷ (steps ++ more)) ≡ later (later_by (length steps) (run_of P τ more))
      go true h rest = run_on σ step (steps ++ more) h ∙ ap later (rest (later_ran _ (sym (run_on σ step steps h) ∙ e)))
      go false h rest = absurd (broken_ran (sym (run_off σ step steps h) ∙ e))

  -- one step more, which is possible
  pub run_more : (σ : State) {τ : State} (steps : List TraceStep) (step : TraceStep) → run_of P σ steps ≡ ran τ → possible P τ step ≡ true
      → run_of P σ (steps ++ (step ∷ [])) ≡ ran (after P τ step)
  unfolding run_of later
  run_more σ {τ} steps step e h = joined σ steps (step ∷ []) e ∙ ap (later_by (length steps)) (run_on τ step [] h) ∙ by_ran (length steps) (after P τ step)

  -- one step more, which is not, and any others
  pub run_breaks : (σ : State) {τ : State} (steps : List TraceStep) (step : TraceStep) (more : List TraceStep) → run_of P σ steps ≡ ran τ → possible P τ step ≡ false
      → run_of P σ (steps ++ (step ∷ more)) ≡ broken (suc (length steps))
  run_breaks σ {τ} steps step more e h = joined σ steps (step ∷ more) e ∙ ap (later_by (length steps)) (run_off τ step more h) ∙ by_broken (length steps)
