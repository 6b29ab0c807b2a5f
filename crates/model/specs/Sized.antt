-- Policies whose sets are words of 64 bits, as those of every policy that a program holds.
use mathlib.Core.List.{Memᴰ as Listed}
use Rattle.roles.specs.declared.RoleSet.{RoleSet}
use Rattle.roles.specs.Members.{Sized}
use Rattle.model.specs.declared.Assign.{Assign}
use Rattle.model.specs.Policy.{Policy}

-- The sets of an assign rule are words of 64 bits.
pub record SizedRule (rule : Assign) : Type 0 where
  pub positive : Sized rule.positive
  pub negative : Sized rule.negative

-- The sets of a policy's assign rules and goals are.
pub record SizedPolicy (P : Policy) : Type 0 where
  pub assigns : {rule : Assign} → Listed rule P.assigns → SizedRule rule
  pub goals : {goal : RoleSet} → Listed goal P.goals → Sized goal
