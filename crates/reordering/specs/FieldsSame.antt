-- Two fields of the same names in some order: each is as long, a name or a set where the other is, and says the same.
use Rattle.std.specs.Prelude.{ℕ, suc, ◌+◌, Bool, true, false, cond, not, ◌&&◌, ◌||◌, List, [], ◌∷◌, ◌≡◌, refl, eqb, length}
use Rattle.std.proofs.Common.{sym, ap, ap₂, subst, ◌∙◌, arith}
use Rattle.roles.specs.declared.RoleSet.{RoleSet}
use Rattle.roles.specs.Sets.{empty_set, single_of, union_of, with_of}
use Rattle.roles.specs.MemberLaws.{union_assoc, union_comm}
use Rattle.text.specs.Forms.{bytes, every, between, name_byte, is_name, is_set, is_label, names_of}
use Rattle.text.specs.Pieces.{split, onto, same_bytes}
use Rattle.text.specs.PieceLaws.{same_equal, split_piece}
use Rattle.tables.specs.declared.Name.{Name}
use Rattle.fields.specs.Fields.{placed, is_declared, all_declared, roles_from, roles_of}
use Rattle.reading.specs.PolicyExact.{whole_piece}
use Rattle.rereading.specs.Cuts.{free, cut_last, free_name}
use Rattle.reordering.specs.Alike.{Reordered, FieldAlike}
use Rattle.reordering.specs.Orders.{total, reordered_back, reordered_one, reordered_length, reordered_total, reordered_every, reordered_repeated, reordered_made}

-- ---- their lengths

-- Bytes are as many as those of their pieces, with one less mark than there are pieces.
pub split_length : (mark : ℕ) (s : List ℕ) → suc (length s) ≡ total (split mark s) + length (split mark s)
unfolding split onto total
split_length mark [] = refl
split_length mark (byte ∷ rest) = go (eqb byte mark) (split_piece mark rest) (split_length mark rest)
  where
    go : (t : Bool) → (first : List ℕ) × (more : List (List ℕ)) × (split mark rest ≡ first ∷ more) → suc (length rest) ≡ total (split mark rest) + length (split mark rest)
        → suc (suc (length rest)) ≡ total (cond t ([] ∷ split mark rest) (onto byte (split mark rest))) + length (cond t ([] ∷ split mark rest) (onto byte (split mark rest)))
    go true piece below = omega (arith, below)
    go false (first, more, pieces) below =
        let long : suc (length rest) ≡ length first + total more + suc (length more) = below ∙ ap (λ (ps : List (List ℕ)). total ps + length ps) pieces in
        rw pieces (omega (arith, long))

pub field_length : (field other : List ℕ) → FieldAlike field other → length field ≡ length other
field_length field other alike =
    omega (arith, split_length 44 field, split_length 44 other, reordered_total alike.names, reordered_length alike.names)

-- ---- fields without a comma

pub field_back : {field other : List ℕ} → FieldAlike field other → FieldAlike other field
field_back alike = record { names = reordered_back alike.names }

-- A field without a comma is like itself only.
pub plain_field : (field other : List ℕ) → FieldAlike field other → free 44 other ≡ true → field ≡ other
plain_field field other alike plain =
    whole_piece 44 field (reordered_one (reordered_back (subst (λ (ps : List (List ℕ)). Reordered (split 44 field) ps) (cut_last 44 other plain) alike.names)))

-- So a test that only fields without a comma pass is the same for both.
pub plain_test : (test : List ℕ → Bool) → ((s : List ℕ) → test s ≡ true → free 44 s ≡ true) → (field other : List ℕ) → FieldAlike field other → test field ≡ test other
plain_test test plain field other alike = go (test field) (test other) refl refl
  where
    go : (a b : Bool) → test field ≡ a → test other ≡ b → a ≡ b
    go a true one two = sym one ∙ ap test (plain_field field other alike (plain other two)) ∙ two
    go true false one two = sym one ∙ ap test (sym (plain_field other field (field_back alike) (plain field one))) ∙ two
    go false false one two = refl

-- A word without a comma,
pub same_word : (word field other : List ℕ) → free 44 word ≡ true → FieldAlike field other → same_bytes field word ≡ same_bytes other word
same_word word field other plain alike = plain_test (λ s. same_bytes s word) (λ s same. ap (free 44) (same_equal s word same) ∙ plain) field other alike

-- a label,
pub same_label_lem : (field other : List ℕ) → FieldAlike field other → is_label field ≡ is_label other
unfolding is_label free every
same_label_lem field other alike = ap₂ ◌||◌ (same_word (bytes "L") field other refl alike) (same_word (bytes "H") field other refl alike)

-- and a name.
name_plain : (s : List ℕ) → is_name s ≡ true → free 44 s ≡ true
unfolding name_byte between
name_plain s name = free_name 44 s refl name

pub same_form : (field other : List ℕ) → FieldAlike field other → is_name field ≡ is_name other
same_form field other alike = plain_test is_name name_plain field other alike

-- Two alike fields are one name, or neither is a name.
pub data SameName : List ℕ → List ℕ → Type 0 where
  one : {field : List ℕ} → SameName field field
  neither : {field other : List ℕ} → is_name field ≡ false → is_name other ≡ false → SameName field other

pub same_name : (field other : List ℕ) → FieldAlike field other → SameName field other
same_name field other alike = go (is_name other) refl
  where
    go : (b : Bool) → is_name other ≡ b → SameName field other
    go true name = subst (λ (s : List ℕ). SameName s other) (sym (plain_field field other alike (name_plain other name))) SameName.one
    go false bad = SameName.neither (same_form field other alike ∙ bad) bad

-- ---- sets

names_same : (field other : List ℕ) → FieldAlike field other → Reordered (names_of field) (names_of other)
unfolding names_of free every
names_same field other alike = rw (same_word (bytes "-") field other refl alike) (go (same_bytes other (bytes "-")))
  where
    go : (b : Bool) → Reordered (cond b [] (split 44 field)) (cond b [] (split 44 other))
    go true = Reordered.none
    go false = alike.names

-- Both are sets or none is,
pub same_set_lem : (field other : List ℕ) → FieldAlike field other → is_set field ≡ is_set other
unfolding is_set
same_set_lem field other alike =
    let order = names_same field other alike in
    ap₂ (λ (a b : Bool). a && not b) (reordered_every is_name order) (reordered_repeated order)

-- of declared names,
pub same_declared : (names : List Name) (field other : List ℕ) → FieldAlike field other → all_declared names field ≡ all_declared names other
unfolding all_declared
same_declared names field other alike = reordered_every (is_declared names) (names_same field other alike)

-- and of the same roles.
pub with_swap : (s : RoleSet) (a b : ℕ) → with_of (with_of s a) b ≡ with_of (with_of s b) a
unfolding with_of
with_swap s a b = union_assoc s (single_of a) (single_of b) ∙ ap (union_of s) (union_comm (single_of a) (single_of b)) ∙ sym (union_assoc s (single_of b) (single_of a))

from_with : (names : List Name) (s : RoleSet) (role : ℕ) (fields : List (List ℕ)) → roles_from names (with_of s role) fields ≡ with_of (roles_from names s fields) role
unfolding roles_from
from_with names s role [] = refl
from_with names s role (field ∷ rest) = ap (λ (t : RoleSet). roles_from names t rest) (with_swap s role (placed names field)) ∙ from_with names (with_of s (placed names field)) role rest

pub same_roles : (names : List Name) (field other : List ℕ) → FieldAlike field other → roles_of names field ≡ roles_of names other
unfolding roles_of roles_from
same_roles names field other alike =
    reordered_made (roles_from names empty_set) (λ name roles. with_of roles (placed names name)) (λ name rest. from_with names empty_set (placed names name) rest)
    (λ x y roles. with_swap roles (placed names y) (placed names x)) (names_same field other alike)
