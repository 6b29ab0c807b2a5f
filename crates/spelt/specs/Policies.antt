-- The role names and the user names of a policy that is read are byte strings that are names, packed.
use Rattle.std.specs.Prelude.{ℕ, ◌<◌, Bool, ◌≡◌}
use Rattle.std.proofs.Math.Bool.{true, false, ◌&&◌, ◌||◌, and-eq-true_iff}
use mathlib.Core.List.{List, [], ◌∷◌, map, nil≢cons, head-eq_of_cons-eq, tail-eq_of_cons-eq}
use Rattle.std.proofs.Math.Path.{refl, ap, ap₂}
use Rattle.std.proofs.Common.{sym, ◌∙◌, arith}
use Rattle.tables.specs.declared.Name.{Name}
use Rattle.tables.specs.Names.{packed}
use Rattle.tables.specs.NameLaws.{packed_one_to_one}
use Rattle.text.specs.Forms.{every, is_name}
use Rattle.text.specs.Pieces.{same_bytes, among, repeated}
use Rattle.text.specs.PieceLaws.{same_equal}
use Rattle.fields.specs.Fields.{placed}
use Rattle.writing.specs.Written.{spelled}
use Rattle.walking.specs.Texts.{read}
use Rattle.reading.specs.Policy.{Said, read_policy}
use Rattle.tables.specs.Named.{Named}
use Rattle.reading.specs.Sound.{read_sound}
use Rattle.rereading.specs.Standing.{Standing, none, more, standing, spelled_form, spelled_back as name_back, spelled-placed}
use Rattle.spelt.specs.Names.{Names}

-- A table of packed names, by their bytes: they are names, none stands twice, and the table has them in their order.
pub record Packed (table : List Name) : Type 0 where
  pub names : List (List ℕ)
  pub are : Names names
  pub packing : table ≡ map packed names

-- ---- the bytes of a table's names

module _ {table : List Name} where
  -- they are names
  spelled_forms : {role : ℕ} {rest : List Name} → Standing table role rest → every is_name (map spelled rest) ≡ true
  unfolding every
  spelled_forms (none last) = refl
  spelled_forms (more spelt at below) = ap₂ ◌&&◌ (spelled_form spelt) (spelled_forms below)

  -- packed they are the names again
  spelled_back : {role : ℕ} {rest : List Name} → Standing table role rest → rest ≡ map packed (map spelled rest)
  spelled_back (none last) = refl
  spelled_back (more spelt at below) = ap₂ ◌∷◌ (sym (name_back spelt)) (spelled_back below)

  -- a name that stands before some of them is not among these
  spelled_new : (field : List ℕ) {role : ℕ} {rest : List Name} → placed table field < role → Standing table role rest → among field (map spelled rest) ≡ false
  unfolding among
  spelled_new field before (none last) = refl
  spelled_new field before (more {role} {name} {rest} spelt at below) = ap₂ ◌||◌ (other (same_bytes field (spelled name)) refl) (spelled_new field (omega arith) below)
    where
      other : (b : Bool) → same_bytes field (spelled name) ≡ b → b ≡ false
      other true same = absurd (omega (arith, before, ap (placed table) (same_equal field (spelled name) same), spelled-placed table spelt, at))
      other false same = refl

  -- so none stands twice
  spelled_once : {role : ℕ} {rest : List Name} → Standing table role rest → repeated (map spelled rest) ≡ false
  unfolding repeated
  spelled_once (none last) = refl
  spelled_once (more {name = name} spelt at below) = ap₂ ◌||◌ (spelled_new (spelled name) (omega (arith, spelled-placed table spelt, at)) below) (spelled_once below)

  named_packed : Named table → Packed table
  named_packed named =
      let stand = standing named in
      record { names = map spelled table; are = record { forms = spelled_forms stand; single = spelled_once stand }; packing = spelled_back stand }

-- The role names of a policy that is read,
pub roles-packed : (policy : List ℕ) {s : Said} → read_policy policy ≡ read s → Packed s.roles
roles-packed policy is = named_packed (read_sound policy is).roles.named

-- and its user names.
pub users-packed : (policy : List ℕ) {s : Said} → read_policy policy ≡ read s → Packed s.users
users-packed policy is = named_packed (read_sound policy is).users.named

-- ---- packing tells the names

names_one : (names others : List (List ℕ)) → every is_name names ≡ true → every is_name others ≡ true → map packed names ≡ map packed others → names ≡ others
unfolding every
names_one [] [] forms forms' same = refl
names_one [] (t ∷ others) forms forms' same = absurd (nil≢cons same)
names_one (s ∷ names) [] forms forms' same = absurd (nil≢cons (sym same))
names_one (s ∷ names) (t ∷ others) forms forms' same =
    let each = (and-eq-true_iff (is_name s) (every is_name names)).0 forms in
    let each' = (and-eq-true_iff (is_name t) (every is_name others)).0 forms' in
    ap₂ ◌∷◌ (packed_one_to_one s t each.0 each'.0 (head-eq_of_cons-eq same)) (names_one names others each.1 each'.1 (tail-eq_of_cons-eq same))

-- A table is packed from one list of names.
pub one_packing : {table : List Name} (one two : Packed table) → one.names ≡ two.names
one_packing one two = names_one one.names two.names one.are.forms two.are.forms (sym one.packing ∙ two.packing)
