-- Whether a name stands among names, and where: what a search that found it says, and one that did not.
use Rattle.std.specs.Prelude.{ℕ, ◌≤◌, ◌<◌, Bool, true, false, cond, ◌&&◌, List, ◌≡◌, refl, eqb, ltb, length, Some, None, is_some, unwrap_or}
use Rattle.std.proofs.Common.{sym, ◌∙◌, arith}
use Rattle.std.proofs.Math.Bool.{and_assoc}
use Rattle.std.proofs.lemmas.Bool.{ltb-true, ltb-false, lt-ltb, le-ltb}
use Rattle.tables.specs.declared.Name.{Name}
use Rattle.tables.specs.Names.{place_of, found_in, same_name, rows}
use Rattle.tables.specs.NameLaws.{place_most, rows_length}

-- two names are the same exactly when each word is
pub same_each_word : (m n : Name) → (eqb m.first n.first && (eqb m.second n.second && (eqb m.third n.third && eqb m.fourth n.fourth))) ≡ same_name m n
unfolding same_name
same_each_word m n = sym (simp and_assoc)

-- a name that stands among the names is found at its place, and no other is found
pub found_here : (names : List Name) (name : Name) → place_of names name < length names → Some (place_of names name) ≡ found_in names name
unfolding found_in
found_here names name here = rw (lt-ltb (place_of names name) (length names) here)

pub found_nowhere : (names : List Name) (name : Name) → length names ≤ place_of names name → None ≡ found_in names name
unfolding found_in
found_nowhere names name past = rw (le-ltb (place_of names name) (length names) past)

-- what is found is the name's place, and stands among the names
pub found_place : (names : List Name) (name : Name) {place : ℕ} → Some place ≡ found_in names name → (place_of names name ≡ place) × (place < length names)
unfolding found_in
found_place names name {place} found = go (ltb (place_of names name) (length names)) refl found
  where
    go : (b : Bool) → ltb (place_of names name) (length names) ≡ b → Some place ≡ cond b (Some (place_of names name)) None → (place_of names name ≡ place) × (place < length names)
    go true is same = let at : place_of names name ≡ place = cc in (at, omega (arith, ltb-true (place_of names name) (length names) is))
    go false is same = absurd (cc)

-- where nothing is found the name stands nowhere
pub found_none : (names : List Name) (name : Name) → None ≡ found_in names name → place_of names name ≡ length names
unfolding found_in
found_none names name none = go (ltb (place_of names name) (length names)) refl none
  where
    go : (b : Bool) → ltb (place_of names name) (length names) ≡ b → None ≡ cond b (Some (place_of names name)) None → place_of names name ≡ length names
    go true is same = absurd (cc)
    go false is same = omega (arith, ltb-false (place_of names name) (length names) is, place_most names name)

-- the same of the first names of a table
pub row_place : (count : ℕ) (table : List ℕ) (name : Name) {place : ℕ} → Some place ≡ found_in (rows count table) name → (place_of (rows count table) name ≡ place) × (place < count)
row_place count table name found = let at = found_place (rows count table) name found in (at.0, omega (arith, at.1, rows_length count table))

pub row_none : (count : ℕ) (table : List ℕ) (name : Name) → None ≡ found_in (rows count table) name → place_of (rows count table) name ≡ count
row_none count table name none = found_none (rows count table) name none ∙ rows_length count table

-- whether anything is found, and the place with the number of names for none
pub found_test : (names : List Name) (name : Name) → is_some (found_in names name) ≡ ltb (place_of names name) (length names)
unfolding found_in
found_test names name = go (ltb (place_of names name) (length names))
  where
    go : (b : Bool) → is_some (cond b (Some (place_of names name)) None) ≡ b
    go true = refl
    go false = refl

pub found_or_length : (names : List Name) (name : Name) → unwrap_or (found_in names name) (length names) ≡ place_of names name
unfolding found_in
found_or_length names name = go (ltb (place_of names name) (length names)) refl
  where
    go : (b : Bool) → ltb (place_of names name) (length names) ≡ b → unwrap_or (cond b (Some (place_of names name)) None) (length names) ≡ place_of names name
    go true is = refl
    go false is = omega (arith, ltb-false (place_of names name) (length names) is, place_most names name)
