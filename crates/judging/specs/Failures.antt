-- The first failure of a typing: of elements in order, of the rules, and of a whole policy.
use Rattle.std.specs.Prelude.{ℕ, ◌+◌, ◌≡◌, length}
use mathlib.Core.List.{Memᴰ as Listed, List, ◌∷◌, ◌++◌}
use Rattle.model.specs.declared.Assign.{Assign}
use Rattle.model.specs.Policy.{Policy, State}
use Rattle.model.specs.Typing.{Typing, closure, AssignPasses, RevokePasses, WellTyped, HoldingsPass, GoalPasses, RulesPass}
use Rattle.judging.specs.declared.Part.{Part}

-- The first element of a list that is not good has this number, from 1: all before it are good.
pub record FailsAt {A : Type 0} (Good : A → Type 0) (xs : List A) (number : ℕ) : Type 0 where
  pub before : List A
  pub element : A
  pub after : List A
  pub listed : xs ≡ before ++ element ∷ after
  pub numbered : number ≡ length before + 1
  pub good : (x : A) → Listed x before → Good x
  pub bad : Good element → ⊥

-- The first rule that fails: an assign rule, or a revoke rule where all assign rules pass.
pub data FirstRule (Γ : Typing) (P : Policy) : Part → ℕ → Type 0 where
  at_assign : {number : ℕ} → FailsAt (AssignPasses closure Γ) P.assigns number → FirstRule Γ P Part.Assign number
  at_revoke : {number : ℕ} → ((rule : Assign) → Listed rule P.assigns → AssignPasses closure Γ rule) → FailsAt (RevokePasses Γ) P.revokes number → FirstRule Γ P Part.Revoke number

-- The first failure: a user's holdings; or a rule, where the holdings pass; or a goal, where holdings and rules pass.
pub data FirstFailure (Γ : Typing) (P : Policy) (σ : State) : Part → ℕ → Type 0 where
  at_holdings : {number : ℕ} → FailsAt (WellTyped Γ) σ number → FirstFailure Γ P σ Part.Holdings number
  at_rule : {part : Part} {number : ℕ} → HoldingsPass Γ σ → FirstRule Γ P part number → FirstFailure Γ P σ part number
  at_goal : {number : ℕ} → HoldingsPass Γ σ → RulesPass closure Γ P → FailsAt (GoalPasses closure Γ) P.goals number → FirstFailure Γ P σ Part.Goal number
