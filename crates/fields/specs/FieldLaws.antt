-- What a field is read as, from what a reader finds, and what its fault says.
use Rattle.std.specs.Prelude.{ℕ, ◌≤◌, Bool, true, false, cond, not, ◌&&◌, ◌⊎◌, List, Some, None, is_none, Ok, Err, ◌≡◌, refl, ltb, leb, length}
use Rattle.std.specs.Option.{ok_or}
use Rattle.std.proofs.Common.{inl, inr, sym, ap, ◌∙◌, ltb-true, ltb-false, le-leb, true≢false, arith}
use Rattle.std.proofs.lemmas.Bool.{lt-leb}
use Rattle.tables.specs.declared.Name.{Name}
use Rattle.text.specs.Forms.{is_name, is_set}
use Rattle.tables.specs.Names.{found_in, packed, place_of, rows}
use Rattle.tables.specs.NameLaws.{rows_length}
use Rattle.walking.specs.declared.Fault.{Fault}
use Rattle.fields.specs.Fields.{all_declared, both_read, field_read, is_declared, name_read, placed, roles_of, set_read, worse}

-- two fields are read as one: both values, and the fault of both together
pub both_fields : {A B : Type 0} (f d f' d' : Bool) (a : A) (b : B) → both_read (field_read f d a) (field_read f' d' b) ≡ field_read (f && f') (d && d') (a, b)
unfolding both_read field_read worse
both_fields true true true true a b = refl
both_fields true true true false a b = refl
both_fields true true false d' a b = refl
both_fields true false true true a b = refl
both_fields true false true false a b = refl
both_fields true false false d' a b = refl
both_fields false d true true a b = refl
both_fields false d true false a b = refl
both_fields false d false d' a b = refl

-- ---- what a reader finds in a table of words

-- a name that is found is declared, and is read as its place
pub found_read : (names : List Name) (field : List ℕ) → ok_or (found_in names (packed field)) Fault.Undeclared ≡ cond (is_declared names field) (Ok (placed names field)) (Err Fault.Undeclared)
unfolding found_in is_declared placed
found_read names field = go (ltb (place_of names (packed field)) (length names))
  where
    go : (b : Bool) → ok_or (cond b (Some (place_of names (packed field))) None) Fault.Undeclared ≡ cond b (Ok (place_of names (packed field))) (Err Fault.Undeclared)
    go true = refl
    go false = refl

-- a name is declared where its place is below the number of names, and new where it is not
pub declared_test : (count : ℕ) (table field : List ℕ) → ltb (placed (rows count table) field) count ≡ is_declared (rows count table) field
unfolding is_declared
declared_test count table field = ap (ltb (placed (rows count table) field)) (sym (rows_length count table))

pub place_test : (count : ℕ) (table field : List ℕ) → leb count (placed (rows count table) field) ≡ not (is_declared (rows count table) field)
place_test count table field = sym (not_ltb (placed (rows count table) field) count) ∙ ap not (declared_test count table field)
  where
    not_ltb : (a b : ℕ) → not (ltb a b) ≡ leb b a
    not_ltb a b = go (ltb a b) refl
      where
        go : (t : Bool) → ltb a b ≡ t → not t ≡ leb b a
        go true e = sym (lt-leb b a (ltb-true a b e))
        go false e = sym (le-leb b a (ltb-false a b e))

-- one that is not found is new
pub new_test : (names : List Name) (field : List ℕ) → is_none (found_in names (packed field)) ≡ not (is_declared names field)
unfolding found_in is_declared placed
new_test names field = go (ltb (place_of names (packed field)) (length names))
  where
    go : (b : Bool) → is_none (cond b (Some (place_of names (packed field))) None) ≡ not b
    go true = refl
    go false = refl

-- ---- what a name field that is read says

-- a name that is read has its form, is declared, and is at its place
pub name_found : (names : List Name) (field : List ℕ) {place : ℕ} → Ok place ≡ name_read names field → (is_name field ≡ true) × (is_declared names field ≡ true) × (place ≡ placed names field)
unfolding name_read field_read
name_found names field {place} is = go (is_name field) (is_declared names field) is
  where
    go : (f d : Bool) → Ok place ≡ field_read f d (placed names field) → (f ≡ true) × (d ≡ true) × (place ≡ placed names field)
    go true true e = (refl, refl, cc)
    go true false e = absurd (true≢false (cc))
    go false d e = absurd (true≢false (cc))

-- one with a fault has not its form, or is undeclared
pub name_faulty : (names : List Name) (field : List ℕ) {fault : Fault} → Err fault ≡ name_read names field → (is_name field ≡ false) ⊎ ((fault ≡ Fault.Undeclared) × (is_declared names field ≡ false))
unfolding name_read field_read
name_faulty names field {fault} is = go (is_name field) (is_declared names field) is
  where
    go : (f d : Bool) → Err fault ≡ field_read f d (placed names field) → (f ≡ false) ⊎ ((fault ≡ Fault.Undeclared) × (d ≡ false))
    go true true e = absurd (true≢false (cc))
    go true false e = inr (cc, refl)
    go false d e = inl refl

-- ---- what a set field that is read says

-- one with a fault has not its form, or has a name that is undeclared
pub set_faulty : (names : List Name) (field : List ℕ) {fault : Fault} → Err fault ≡ set_read names field
    → ((fault ≡ Fault.Malformed) × (is_set field ≡ false)) ⊎ ((fault ≡ Fault.Undeclared) × (is_set field ≡ true) × (all_declared names field ≡ false))
unfolding set_read field_read
set_faulty names field {fault} is = go (is_set field) (all_declared names field) is
  where
    go : (f d : Bool) → Err fault ≡ field_read f d (roles_of names field) → ((fault ≡ Fault.Malformed) × (f ≡ false)) ⊎ ((fault ≡ Fault.Undeclared) × (f ≡ true) × (d ≡ false))
    go true true e = absurd (true≢false (cc))
    go true false e = inr (cc, refl, refl)
    go false d e = inl (cc, refl)

-- no more than 128 names are looked up
pub few_rows : (count : ℕ) (table : List ℕ) → count ≤ 128 → length (rows count table) ≤ 128
few_rows count table few = omega (arith, rows_length count table)
