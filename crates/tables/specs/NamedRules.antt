-- Names in a table: each is a name packed, and none stands twice.
use Rattle.std.specs.Prelude.{ℕ, ◌<◌, true, ◌≡◌, length, get_or}
use mathlib.Core.List.{List, Memᴰ as Listed}
use Rattle.text.specs.Forms.{is_name}
use Rattle.tables.specs.declared.Name.{Name}
use Rattle.tables.specs.Names.{packed, place_of}

-- A field that is a name, and its packing.
pub record Spelt (name : Name) : Type 0 where
  pub field : List ℕ
  pub form : is_name field ≡ true
  pub packing : name ≡ packed field

-- Every name is a name packed, and each stands at its own place only.
pub record Named (names : List Name) : Type 0 where
  pub spelt : (name : Name) → Listed name names → Spelt name
  pub single : (past : Name) (place : ℕ) → place < length names → place_of names (get_or names place past) ≡ place
