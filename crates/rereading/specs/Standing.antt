-- The names of a policy in their order, each at its own number; and the names that are written of a set of its roles.
use Rattle.std.specs.Prelude.{ℕ, suc, ◌+◌, ◌≤◌, ◌<◌, Bool, cond, List, [], ◌∷◌, ◌≡◌, length, get_or, drop}
use Rattle.std.proofs.Math.Bool.{true, false, ◌&&◌, ◌||◌}
use Rattle.std.proofs.Math.Path.{refl, ap, ap₂}
use Rattle.std.proofs.Common.{sym, subst, ◌∙◌, length-drop, drop-cons, arith}
use Rattle.roles.specs.declared.RoleSet.{RoleSet}
use Rattle.roles.specs.Sets.{has_role}
use Rattle.roles.specs.Members.{◌∈◌}
use Rattle.tables.specs.declared.Name.{Name}
use Rattle.text.specs.Forms.{every, is_name}
use Rattle.tables.specs.Names.{packed, place_of}
use Rattle.text.specs.Pieces.{same_bytes, among, repeated}
use Rattle.text.specs.PieceLaws.{same_equal}
use Rattle.fields.specs.Fields.{placed}
use Rattle.steps.proofs.PlaceLaws.{stands_at, at_listed}
use Rattle.writing.specs.Written.{spelled}
use Rattle.writing.specs.Spelling.{spelled-packed}
use Rattle.spelling.specs.TypingText.{names_from}
use Rattle.tables.specs.Named.{Spelt, Named}

-- The names from a number on: each spells a name and stands at its number, and they go to the end of the table.
pub data Standing (table : List Name) : ℕ → List Name → Type 0 where
  none : {role : ℕ} → role ≡ length table → Standing table role []
  more : {role : ℕ} {name : Name} {rest : List Name} → Spelt name → place_of table name ≡ role → Standing table (suc role) rest → Standing table role (name ∷ rest)

-- so do the names of a policy, from the first on
pub standing : {names : List Name} → Named names → Standing names 0 names
standing {names} named = go 0 names (omega arith) refl
  where
    go : (role : ℕ) (rest : List Name) → role ≤ length names → drop role names ≡ rest → Standing names role rest
    go role [] fits left = none {role = role} (omega (arith, length-drop role names, ap length left))
    go role (name ∷ rest) fits left =
        let here : role < length names = omega (arith, length-drop role names, ap length left) in
        let cut = sym (drop-cons names role name here) ∙ left in
        let own : get_or names role name ≡ name = cc in
        more (subst Spelt own (named.spelt (get_or names role name) (at_listed (stands_at name names role here)))) (subst (λ (n : Name). place_of names n ≡ role) own (named.single name role here)) (go (suc role) rest here (cc))

-- the names that are left go to the end of the table
pub to_end : {table : List Name} {role : ℕ} {rest : List Name} → Standing table role rest → role + length rest ≡ length table
to_end (none last) = omega arith
to_end (more spelt at below) = omega (arith, to_end below)

-- ---- a name spelled

-- its bytes are those of the field that was packed
spelling : {name : Name} (spelt : Spelt name) → spelled name ≡ spelt.field
spelling spelt = ap spelled spelt.packing ∙ spelled-packed spelt.field spelt.form

-- They are a name,
pub spelled_form : {name : Name} → Spelt name → is_name (spelled name) ≡ true
spelled_form spelt = ap is_name (spelling spelt) ∙ spelt.form

-- packed are the name again,
pub spelled_back : {name : Name} → Spelt name → packed (spelled name) ≡ name
spelled_back spelt = ap packed (spelling spelt) ∙ sym spelt.packing

-- and stand where the packed name does.
pub spelled-placed : (table : List Name) {name : Name} → Spelt name → placed table (spelled name) ≡ place_of table name
unfolding placed
spelled-placed table spelt = ap (place_of table) (spelled_back spelt)

-- ---- the names that are written of a set

module _ (table : List Name) (set : RoleSet) where
  -- What holds of every name of the table whose role is in the set holds of all that are written.
  pub each_written : (test : List ℕ → Bool) → ((name : Name) → Spelt name → place_of table name < length table → place_of table name ∈ set → test (spelled name) ≡ true)
      → {role : ℕ} {rest : List Name} → Standing table role rest → every test (names_from role set rest) ≡ true
  unfolding every names_from
  each_written test good (none last) = refl
  each_written test good (more {role} {name} {rest} spelt at below) =
      go (has_role set role) refl (λ has. good name spelt (omega (arith, to_end below, at)) (record { found = ap (has_role set) at ∙ has })) (each_written test good below)
    where
      go : (b : Bool) → has_role set role ≡ b → (has_role set role ≡ true → test (spelled name) ≡ true) → every test (names_from (suc role) set rest) ≡ true
          → every test (cond b (spelled name ∷ names_from (suc role) set rest) (names_from (suc role) set rest)) ≡ true
      go true has here all = ap₂ ◌&&◌ (here has) all
      go false has here all = all

  -- a name that stands before them is not among them
  not_among : (field : List ℕ) {role : ℕ} {rest : List Name} → placed table field < role → Standing table role rest → among field (names_from role set rest) ≡ false
  unfolding among names_from
  not_among field before (none last) = refl
  not_among field before (more {role} {name} {rest} spelt at below) = go (has_role set role) (not_among field (omega arith) below)
    where
      other : (b : Bool) → same_bytes field (spelled name) ≡ b → b ≡ false
      other true same = absurd (omega (arith, before, ap (placed table) (same_equal field (spelled name) same), spelled-placed table spelt, at))
      other false same = refl

      go : (b : Bool) → among field (names_from (suc role) set rest) ≡ false
          → among field (cond b (spelled name ∷ names_from (suc role) set rest) (names_from (suc role) set rest)) ≡ false
      go true later = ap₂ ◌||◌ (other (same_bytes field (spelled name)) refl) later
      go false later = later

  -- None is written twice.
  pub written_once : {role : ℕ} {rest : List Name} → Standing table role rest → repeated (names_from role set rest) ≡ false
  unfolding repeated names_from
  written_once (none last) = refl
  written_once (more {role} {name} {rest} spelt at below) = go (has_role set role) (not_among (spelled name) (omega (arith, spelled-placed table spelt, at)) below) (written_once below)
    where
      go : (b : Bool) → among (spelled name) (names_from (suc role) set rest) ≡ false → repeated (names_from (suc role) set rest) ≡ false
          → repeated (cond b (spelled name ∷ names_from (suc role) set rest) (names_from (suc role) set rest)) ≡ false
      go true new later = ap₂ ◌||◌ new later
      go false new later = later
