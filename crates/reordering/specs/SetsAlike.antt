-- A set field is like the text of the set that it says: the same names, in role order.
use Rattle.std.specs.Prelude.{ℕ, suc, ◌+◌, ◌≤◌, Bool, true, false, cond, ◌≡◌, length}
use Rattle.std.proofs.Math.Bool.{not, ◌&&◌, and-eq-true_iff}
use mathlib.Core.List.{List, [], ◌∷◌, ◌++◌, append_assoc, append-nil}
use Rattle.std.proofs.Math.Path.{refl, ap, ap₂, subst}
use Rattle.std.proofs.Common.{sym, ◌∙◌, add-zero, zero-add, arith}
use borrow.Author.Tests.{ltb-true, not-true}
use Rattle.roles.specs.declared.RoleSet.{RoleSet}
use Rattle.roles.specs.Sets.{empty_set, has_role, with_of}
use Rattle.roles.specs.MemberLaws.{has_empty}
use Rattle.text.specs.Forms.{bytes, every, is_name, is_set, names_of}
use Rattle.text.specs.Pieces.{split, onto, same_bytes, among, repeated}
use Rattle.text.specs.PieceLaws.{same_equal, split_piece, neither}
use Rattle.tables.specs.declared.Name.{Name}
use Rattle.tables.specs.Names.{name_at}
use Rattle.tables.specs.Named.{Named}
use Rattle.fields.specs.Fields.{placed, is_declared, all_declared, roles_from, roles_of}
use Rattle.writing.specs.Written.{spelled}
use Rattle.writing.specs.Spelling.{spelled-packed}
use Rattle.spelling.specs.TypingText.{names_from, set_text}
use Rattle.rereading.specs.Joined.{names-back}
use Rattle.rereading.specs.Standing.{standing, spelled_form, each_written}
use Rattle.measuring.specs.Sets.{at_place, is_fresh, fresh_on}
use Rattle.reordering.specs.Alike.{Inserted, Reordered, FieldAlike}
use Rattle.reordering.specs.Orders.{reordered_own}
use Rattle.reordering.specs.OrdersMore.{put_last}
use Rattle.reordering.specs.Picked.{picked, picked_none, picked_put}

-- ---- the names of a set in role order

-- by the places of its roles, where the first name is the role of a number
pub names_picked : (table names : List Name) (role : ℕ) (set : RoleSet) → ((k : ℕ) → name_at names k ≡ name_at table (role + k)) → names_from role set names ≡ picked (λ (r : ℕ). spelled (name_at table r)) role (length names) set
unfolding names_from picked name_at
names_picked table [] role set same = refl
names_picked table (name ∷ names) role set same =
    ap₂ (λ (first : List ℕ) (rest : List (List ℕ)). cond (has_role set role) (first ∷ rest) rest) (ap spelled (same 0 ∙ ap (name_at table) (add-zero role))) (names_picked table names (suc role) set (λ k. same (suc k) ∙ ap (name_at table) (on k)))
  where
    on : (k : ℕ) → role + suc k ≡ suc role + k
    on k = omega arith

-- A declared name is spelled at its place.
pub placed_name : {table : List Name} → Named table → (name : List ℕ) → is_name name ≡ true → is_declared table name ≡ true → spelled (name_at table (placed table name)) ≡ name
placed_name named name form known = ap spelled (at_place named name known) ∙ spelled-packed name form

module _ {table : List Name} (named : Named table) (few : length table ≤ 128) where
  -- the names of a set's roles
  abbrev in_roles : RoleSet → List (List ℕ)
  in_roles set = picked (λ (r : ℕ). spelled (name_at table r)) 0 (length table) set

  -- a name that is new to a set is one more of its names
  name_put : (name : List ℕ) (set : RoleSet) → is_name name ≡ true → is_declared table name ≡ true → is_fresh named set name ≡ true → Inserted name (in_roles set) (in_roles (with_of set (placed table name)))
  unfolding is_fresh is_declared
  name_put name set form known new =
      let here = ltb-true (placed table name) (length table) known in
      subst (λ (n : List ℕ). Inserted n (in_roles set) (in_roles (with_of set (placed table name)))) (placed_name named name form known)
      (picked_put (λ (r : ℕ). spelled (name_at table r)) 0 (length table) (placed table name) set (omega arith) (omega (arith, here)) (omega (arith, here, few)) (not-true (has_role set (placed table name)) new))

  -- names that are added one after another to those of a set
  names_ordered : (fields above : List (List ℕ)) (set : RoleSet) → every is_name fields ≡ true → every (is_declared table) fields ≡ true → repeated fields ≡ false → every (is_fresh named set) fields ≡ true
      → Reordered above (in_roles set) → Reordered (above ++ fields) (in_roles (roles_from table set fields))
  unfolding roles_from every repeated
  names_ordered [] above set forms known single fresh so = subst (λ (l : List (List ℕ)). Reordered l (in_roles set)) (sym (append-nil above)) so
  names_ordered (name ∷ rest) above set forms known single fresh so =
      let form = (and-eq-true_iff (is_name name) (every is_name rest)).0 forms in
      let declared = (and-eq-true_iff (is_declared table name) (every (is_declared table) rest)).0 known in
      let alone = neither (among name rest) (repeated rest) single in
      let new = (and-eq-true_iff (is_fresh named set name) (every (is_fresh named set) rest)).0 fresh in
      subst (λ (l : List (List ℕ)). Reordered l (in_roles (roles_from table (with_of set (placed table name)) rest))) (append_assoc above (name ∷ []) rest)
      (names_ordered rest (above ++ (name ∷ [])) (with_of set (placed table name)) form.1 declared.1 alone.1 (fresh_on named few set name rest form.0 declared.0 form.1 alone.0 new.1)
      (put_last so (name_put name set form.0 declared.0 new.0)))

  all_fresh : (fields : List (List ℕ)) → every (is_fresh named empty_set) fields ≡ true
  unfolding every is_fresh
  all_fresh [] = refl
  all_fresh (name ∷ fields) = ap₂ ◌&&◌ (ap not (has_empty (placed table name))) (all_fresh fields)

  -- the names as written, and in role order
  field_ordered : (field : List ℕ) → is_set field ≡ true → all_declared table field ≡ true → Reordered (names_of field) (names_from 0 (roles_of table field) table)
  unfolding is_set all_declared roles_of
  field_ordered field form known =
      let parts = (and-eq-true_iff (every is_name (names_of field)) (not (repeated (names_of field)))).0 form in
      let none = subst (Reordered []) (sym (picked_none (λ (r : ℕ). spelled (name_at table r)) 0 (length table))) Reordered.none in
      subst (Reordered (names_of field)) (sym (names_picked table table 0 (roles_from table empty_set (names_of field)) (λ k. ap (name_at table) (sym (zero-add k)))))
      (names_ordered (names_of field) [] empty_set parts.0 known (not-true (repeated (names_of field)) parts.1) (all_fresh (names_of field)) none)

-- ---- the pieces of a set field

-- names, or a dash where there are none
unfoldable pieces_of : List (List ℕ) → List (List ℕ)
pieces_of [] = bytes "-" ∷ []
pieces_of (name ∷ names) = name ∷ names

field_pieces : (field : List ℕ) → split 44 field ≡ pieces_of (names_of field)
unfolding names_of split onto pieces_of
field_pieces field = go (same_bytes field (bytes "-")) refl (split_piece 44 field)
  where
    go : (b : Bool) → same_bytes field (bytes "-") ≡ b → (name : List ℕ) × (more : List (List ℕ)) × (split 44 field ≡ name ∷ more) → split 44 field ≡ pieces_of (cond b [] (split 44 field))
    go true same some = ap (split 44) (same_equal field (bytes "-") same)
    go false same (name, more, are) = are ∙ ap pieces_of (sym are)

pieces_ordered : {some others : List (List ℕ)} → Reordered some others → Reordered (pieces_of some) (pieces_of others)
unfolding pieces_of
pieces_ordered Reordered.none = reordered_own (bytes "-" ∷ [])
pieces_ordered (Reordered.put rest Inserted.here) = Reordered.put rest Inserted.here
pieces_ordered (Reordered.put rest (Inserted.there one)) = Reordered.put rest (Inserted.there one)

-- the names of a set that is written
pub written-names : {table : List Name} → Named table → (set : RoleSet) → names_of (set_text table set) ≡ names_from 0 set table
unfolding set_text
written-names {table} named set = names-back (names_from 0 set table) (each_written table set is_name (λ name spelt here has. spelled_form spelt) (standing named))

-- ---- two fields

-- A field is like itself,
pub field_same : {field other : List ℕ} → field ≡ other → FieldAlike field other
field_same {field} {other} same = record { names = subst (λ (l : List ℕ). Reordered (split 44 field) (split 44 l)) same (reordered_own (split 44 field)) }

-- and a set field like its set in role order.
pub set_alike : {table : List Name} → Named table → length table ≤ 128 → (field : List ℕ) → is_set field ≡ true → all_declared table field ≡ true → FieldAlike field (set_text table (roles_of table field))
set_alike {table} named few field form known =
    let set = roles_of table field in
    record {
      names =
          subst (λ (l : List (List ℕ)). Reordered l (split 44 (set_text table set))) (sym (field_pieces field))
          (subst (λ (l : List (List ℕ)). Reordered (pieces_of (names_of field)) l) (sym (field_pieces (set_text table set) ∙ ap pieces_of (written-names named set)))
          (pieces_ordered (field_ordered named few field form known)));
    }
