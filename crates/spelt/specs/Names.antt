-- Names by their bytes: a field is declared exactly when its bytes stand among the names, and a set field has the roles at the places of its names.
use Rattle.std.specs.Prelude.{ℕ, true, false, ◌≡◌}
use mathlib.Core.List.{List, Memᴰ as Listed}
use Rattle.text.specs.Forms.{every, is_name}
use Rattle.text.specs.Pieces.{repeated}
use Rattle.steps.specs.Places.{At}

-- Byte strings that are names, none of them twice.
pub record Names (names : List (List ℕ)) : Type 0 where
  pub forms : every is_name names ≡ true
  pub single : repeated names ≡ false

-- A role whose name is among those written.
pub record RoleOf (names written : List (List ℕ)) (role : ℕ) : Type 0 where
  pub name : List ℕ
  pub stands : At name names role
  pub is_written_lem : Listed name written
