-- A set of roles below a number.
use Rattle.std.specs.Prelude.{ℕ, ◌<◌}
use Rattle.roles.specs.declared.RoleSet.{RoleSet}
use Rattle.roles.specs.Members.{◌∈◌, Sized}

-- The words of a set are of 64 bits, and all its roles are below a number.
pub record Inside (roles : ℕ) (s : RoleSet) : Type 0 where
  pub sized : Sized s
  pub below : {role : ℕ} → role ∈ s → role < roles
