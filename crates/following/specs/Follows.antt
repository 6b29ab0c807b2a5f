-- The steps of a trace in the model's words: which step line is a step, which steps are a run, and at which a trace breaks.
use Rattle.std.specs.Prelude.{ℕ, suc, List, [], ◌∷◌, ◌++◌, ◌≡◌, length}
use Rattle.model.specs.declared.Assign.{Assign}
use Rattle.model.specs.declared.Revoke.{Revoke}
use Rattle.model.specs.Policy.{Label, Policy, State, Present, Holds, CanAssign, CanRevoke, granted, revoked, joined, departed}
use Rattle.steps.specs.declared.Step.{Step}
use Rattle.steps.specs.Places.{At}

-- The step line is a step from one state to another: its actor can use the policy's rule at its place, of its kind, on its user, and does;
-- or somebody joins at the next place; or its user, who is present, leaves.
pub data Use (P : Policy) (σ : State) : Step → State → Type 0 where
  assign : {rule : Assign} {actor place user : ℕ} → At rule P.assigns place → CanAssign σ actor rule user → (Holds σ user rule.target → ⊥) → Use P σ (Step.Assign actor place user) (granted σ user rule.target)
  revoke : {rule : Revoke} {actor place user : ℕ} → At rule P.revokes place → CanRevoke σ actor rule user → Holds σ user rule.target → Use P σ (Step.Revoke actor place user) (revoked σ user rule.target)
  join : {user : ℕ} {clearance : Label} → user ≡ length σ → Use P σ (Step.Join user clearance) (joined σ clearance)
  leave : {user : ℕ} → Present σ user → Use P σ (Step.Leave user) (departed σ user)

-- The step lines in turn are steps, each from the state that the one before it leads to: a run from the first state to the last.
pub data Follows (P : Policy) : State → List Step → State → Type 0 where
  none : {σ : State} → Follows P σ [] σ
  next : {σ τ υ : State} {step : Step} {steps : List Step} → Use P σ step τ → Follows P τ steps υ → Follows P σ (step ∷ steps) υ

-- The step line with this number, from 1, is the first that is no step: those before it are a run to a state from which it is none.
pub record Breaks (P : Policy) (σ : State) (steps : List Step) (number : ℕ) : Type 0 where
  pub earlier : List Step
  pub step : Step
  pub rest : List Step
  pub parted : steps ≡ earlier ++ (step ∷ rest)
  pub numbered : number ≡ suc (length earlier)
  pub state : State
  pub follows : Follows P σ earlier state
  pub no_use : {τ : State} → Use P state step τ → ⊥
