-- A set field by its bytes, and that a set field is read as a set exactly when it is spelt so.
use Rattle.std.specs.Prelude.{ℕ, false, ◌↔◌, ◌≡◌}
use mathlib.Core.List.{List, Memᴰ as Listed}
use Rattle.roles.specs.declared.RoleSet.{RoleSet}
use Rattle.roles.specs.Members.{◌∈◌, Sized}
use Rattle.text.specs.Pieces.{repeated}
use Rattle.spelling.specs.TypingText.{joined}
use Rattle.spelt.specs.Names.{RoleOf}

-- A set of roles as a field: names joined by commas, in any order and none twice, `-` where there is none; each is a role's name,
-- and the set, in words of 64 bits, has the roles of these names and no other.
pub record SetSpelt (names : List (List ℕ)) (field : List ℕ) (set : RoleSet) : Type 0 where
  pub written : List (List ℕ)
  pub joining : field ≡ joined written
  pub single : repeated written ≡ false
  pub declared : (name : List ℕ) → Listed name written → Listed name names
  pub roles : (role : ℕ) → role ∈ set ↔ RoleOf names written role
  pub sized : Sized set
