-- Membership, a common role, inclusion, and words of 64 bits.
use Rattle.std.specs.Prelude.{ℕ, ◌^◌, ◌<◌, true, ◌≡◌}
use Rattle.roles.specs.declared.RoleSet.{RoleSet}
use Rattle.roles.specs.Sets.{has_role}

infix 40 ◌∈◌
-- the role is in the set
pub record ◌∈◌ (role : ℕ) (s : RoleSet) : Type 0 where
  pub found : has_role s role ≡ true

-- the two sets have a role in common
pub record Share (s t : RoleSet) : Type 0 where
  pub role : ℕ
  pub first : role ∈ s
  pub second : role ∈ t

-- every role of the first is in the second
pub record Within (s t : RoleSet) : Type 0 where
  pub every : {role : ℕ} → role ∈ s → role ∈ t

-- both words are words of 64 bits, as those of every set that a program holds
pub record Sized (s : RoleSet) : Type 0 where
  pub low : s.low < 2 ^ 64
  pub high : s.high < 2 ^ 64
