-- Going through the steps of a trace is exact against the model: it ends in a state exactly when the steps follow to it, and breaks exactly
-- at the first that is no step; and steps that follow are the runs of the policy.
use Rattle.std.specs.Prelude.{ℕ, Bool, ◌↔◌, ◌≡◌, length}
use Rattle.std.proofs.Math.Bool.{true, false}
use Rattle.std.proofs.lemmas.Bool.{false≢true}
use mathlib.Core.List.{List, [], ◌∷◌, ◌++◌}
use Rattle.std.proofs.Math.Path.{refl, ap, subst}
use Rattle.std.proofs.Common.{sym, ◌∙◌}
use Rattle.model.specs.declared.Assign.{Assign}
use Rattle.model.specs.declared.Revoke.{Revoke}
use Rattle.model.specs.Policy.{Policy, no_assign, no_revoke, State, granted, revoked, Move, Runs, Run}
use Rattle.model.specs.Policy as model
use Rattle.model.specs.Sized.{SizedPolicy}
use Rattle.model.proofs.States.{runs_on}
use Rattle.steps.specs.declared.Step.{Step}
use Rattle.steps.proofs.PlaceLaws.{at_inside, at_stands, stands_at, at_listed, listed_at}
use Rattle.steps.specs.Traces.{assign_at, revoke_at, possible, after, broken, ran, later, run_of}
use Rattle.steps.specs.Runs.{ran_same, broken_ran, later_ran, run_on, run_off}
use Rattle.steps.specs.StepExact.{BrokenAt, assign_possible, revoke_possible, join_possible, leave_possible, broken_first}
use Rattle.following.specs.Follows.{Use, Follows, Breaks}

-- ---- a step

module _ {P : Policy} where
  -- A use is a move of the model,
  pub use_move : {σ τ : State} {step : Step} → Use P σ step τ → Move P σ τ
  use_move (Use.assign at can fresh) = Move.step (model.Step.assign (at_listed at) can fresh)
  use_move (Use.revoke at can holds) = Move.step (model.Step.revoke (at_listed at) can holds)
  use_move (Use.join {clearance = clearance} next) = Move.join clearance
  use_move (Use.leave here) = Move.leave here

  -- and every move of the model is one.
  pub move_use : {σ τ : State} → Move P σ τ → (step : Step) × Use P σ step τ
  move_use (Move.step (model.Step.assign {rule = rule} {actor = actor} {user = user} listed can fresh)) =
      let (place, at) = listed_at listed in
      (Step.Assign actor place user, Use.assign at can fresh)
  move_use (Move.step (model.Step.revoke {rule = rule} {actor = actor} {user = user} listed can holds)) =
      let (place, at) = listed_at listed in
      (Step.Revoke actor place user, Use.revoke at can holds)
  move_use {σ} (Move.join clearance) = (Step.Join (length σ) clearance, Use.join refl)
  move_use (Move.leave {user = user} here) = (Step.Leave user, Use.leave here)

  -- a possible step is a use that leads to the state after it
  possible_use : SizedPolicy P → (σ : State) (step : Step) → possible P σ step ≡ true → Use P σ step (after P σ step)
  unfolding assign_at revoke_at after
  possible_use sizes σ (Step.Assign actor place user) e =
      let (inside, (can, fresh)) = (assign_possible P σ actor place user sizes).0 e in
      Use.assign (stands_at _ P.assigns place inside) can fresh
  possible_use sizes σ (Step.Revoke actor place user) e =
      let (inside, (can, holds)) = (revoke_possible P σ actor place user).0 e in
      Use.revoke (stands_at _ P.revokes place inside) can holds
  possible_use sizes σ (Step.Join user clearance) e = Use.join ((join_possible P σ user clearance).0 e)
  possible_use sizes σ (Step.Leave user) e = Use.leave ((leave_possible P σ user).0 e)

  -- and a use is possible, and leads there
  use_possible : SizedPolicy P → {σ τ : State} {step : Step} → Use P σ step τ → (possible P σ step ≡ true) × (after P σ step ≡ τ)
  unfolding assign_at revoke_at after
  use_possible sizes {σ} (Use.assign {actor = actor} {place = place} {user = user} at can fresh) =
      let same = at_stands no_assign at in
      ((assign_possible P σ actor place user sizes).1 (at_inside at, (rw same can, rw same fresh)), ap (λ (r : Assign). granted σ user r.target) same)
  use_possible sizes {σ} (Use.revoke {actor = actor} {place = place} {user = user} at can holds) =
      let same = at_stands no_revoke at in
      ((revoke_possible P σ actor place user).1 (at_inside at, (rw same can, rw same holds)), ap (λ (r : Revoke). revoked σ user r.target) same)
  use_possible sizes {σ} (Use.join {user = user} {clearance = clearance} next) = ((join_possible P σ user clearance).1 next, refl)
  use_possible sizes {σ} (Use.leave {user = user} here) = ((leave_possible P σ user).1 here, refl)

-- ---- steps that follow

module _ {P : Policy} (sizes : SizedPolicy P) where
  ran_follows : (σ : State) {τ : State} (steps : List Step) → run_of P σ steps ≡ ran τ → Follows P σ steps τ
  unfolding run_of
  ran_follows σ [] e = subst (Follows P σ []) (ran_same e) Follows.none
  ran_follows σ {τ} (step ∷ steps) e = go (possible P σ step) refl (ran_follows (after P σ step) steps)
    where
      go : (b : Bool) → possible P σ step ≡ b
          → (run_of P (after P σ step) steps ≡ ran τ → Follows P (after P σ step) steps τ) → Follows P σ (step ∷ steps) τ
      go true h rest = Follows.next (possible_use sizes σ step h) (rest (later_ran _ (sym (run_on P σ step steps h) ∙ e)))
      go false h rest = absurd (broken_ran (sym (run_off P σ step steps h) ∙ e))

  follows_ran : {σ τ : State} {steps : List Step} → Follows P σ steps τ → run_of P σ steps ≡ ran τ
  unfolding run_of later
  follows_ran Follows.none = refl
  follows_ran {σ} (Follows.next {step = step} {steps = steps} used rest) =
      let (is-possible, leads) = use_possible sizes used in
      run_on P σ step steps is-possible ∙ ap later (ap (λ (υ : State). run_of P υ steps) leads ∙ follows_ran rest)

  -- Going through the steps ends in a state exactly when they follow to it.
  pub follows_exact : (σ τ : State) (steps : List Step) → run_of P σ steps ≡ ran τ ↔ Follows P σ steps τ
  follows_exact σ τ steps = (ran_follows σ steps, follows_ran)

  -- It breaks at a number exactly when the step line with that number is the first that is no step.
  pub breaks_exact : (σ : State) (steps : List Step) (number : ℕ) → run_of P σ steps ≡ broken number ↔ Breaks P σ steps number
  breaks_exact σ steps number = (λ e. told (exact.0 e), λ breaks. exact.1 (given breaks))
    where
      exact : run_of P σ steps ≡ broken number ↔ BrokenAt P σ steps number
      exact = broken_first P σ steps number

      told : BrokenAt P σ steps number → Breaks P σ steps number
      told at = record {
        earlier = at.earlier;
        step = at.step;
        rest = at.rest;
        parted = at.parted;
        numbered = at.numbered;
        state = at.state;
        follows = ran_follows σ at.earlier at.runs;
        no_use = λ used. false≢true (sym at.impossible ∙ (use_possible sizes used).0);
      }

      given : Breaks P σ steps number → BrokenAt P σ steps number
      given breaks = record {
        earlier = breaks.earlier;
        step = breaks.step;
        rest = breaks.rest;
        parted = breaks.parted;
        numbered = breaks.numbered;
        state = breaks.state;
        runs = follows_ran breaks.follows;
        impossible = never (possible P breaks.state breaks.step) refl;
      }
        where
          never : (b : Bool) → possible P breaks.state breaks.step ≡ b → b ≡ false
          never true e = absurd (breaks.no_use (possible_use sizes breaks.state breaks.step e))
          never false e = refl

-- ---- the runs of a policy

module _ {P : Policy} where
  -- Steps that follow are a run of the policy,
  pub follows_run : {σ τ : State} {steps : List Step} → Follows P σ steps τ → Run P σ τ
  follows_run Follows.none = Runs.stay
  follows_run (Follows.next used rest) = runs_on (Runs.next Runs.stay (use_move used)) (follows_run rest)

  -- steps that follow go on with one more
  follows_more : {σ τ υ : State} {steps : List Step} {step : Step} → Follows P σ steps τ → Use P τ step υ → Follows P σ (steps ++ (step ∷ [])) υ
  follows_more Follows.none last = Follows.next last Follows.none
  follows_more (Follows.next used rest) last = Follows.next used (follows_more rest last)

  -- and their last leads from where those before it lead,
  pub follows_last : {σ υ : State} (steps : List Step) (step : Step) → Follows P σ (steps ++ (step ∷ [])) υ → (τ : State) × Follows P σ steps τ × Use P τ step υ
  follows_last [] step (Follows.next last Follows.none) = (_, Follows.none, last)
  follows_last (first ∷ steps) step (Follows.next used rest) =
      let (τ, earlier, last) = follows_last steps step rest in
      (τ, Follows.next used earlier, last)

  -- and for every run of the policy there are steps that follow so.
  pub run_follows : {σ τ : State} → Run P σ τ → (steps : List Step) × Follows P σ steps τ
  run_follows Runs.stay = ([], Follows.none)
  run_follows (Runs.next run move) =
      let (steps, follows) = run_follows run in
      let (line, used) = move_use move in
      (steps ++ (line ∷ []), follows_more follows used)
