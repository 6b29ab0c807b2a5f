-- A set field is as long as the text of the set that it says.
use Rattle.std.specs.Prelude.{ℕ, suc, ◌+◌, ◌≤◌, ◌<◌, Bool, false, cond, ◌≡◌, eqb, length}
use Rattle.std.proofs.Math.Bool.{true, not, ◌&&◌, ◌||◌, and-eq-true_iff}
use Rattle.std.proofs.lemmas.Bool.{false≢true}
use mathlib.Core.List.{List, [], ◌∷◌, ◌++◌}
use Rattle.std.proofs.Math.Path.{refl, ap, ap₂}
use Rattle.std.proofs.Common.{sym, ◌∙◌, length-append, add-zero, zero-add}
use borrow.Author.Tests.{ltb-true, not-true, ne_eqb}
use native.Mathlib.Omega.{arith}
use Rattle.roles.specs.declared.RoleSet.{RoleSet}
use Rattle.roles.specs.Sets.{empty_set, has_role, with_of}
use Rattle.roles.specs.MemberLaws.{has_empty, has_with}
use Rattle.text.specs.Forms.{bytes, every, is_name, is_set, names_of}
use Rattle.text.specs.Pieces.{same_bytes, among, repeated}
use Rattle.text.specs.PieceLaws.{equal_same, neither}
use Rattle.spelling.specs.NamesJoined.{names-joined}
use Rattle.tables.specs.declared.Name.{Name}
use Rattle.tables.specs.Names.{packed, name_at}
use Rattle.tables.specs.NameLaws.{place_one_to_one}
use Rattle.tables.specs.Named.{Named}
use Rattle.fields.specs.Fields.{placed, is_declared, all_declared, roles_from, roles_of}
use Rattle.writing.specs.Written.{spelled}
use Rattle.writing.specs.Spelling.{spelled-packed}
use Rattle.spelling.specs.TypingText.{names_from, joined_after, joined, set_text}
use Rattle.measuring.specs.Sums.{sum_from, weight, weight_none, weight_with}

-- ---- names joined

-- the bytes of names, and one more for each
unfoldable total : List (List ℕ) → ℕ
total [] = 0
total (name ∷ names) = suc (length name) + total names

after_length : (name : List ℕ) (more : List (List ℕ)) → suc (length (joined_after name more)) ≡ suc (length name) + total more
unfolding joined_after total
after_length name [] = omega arith
after_length name (next ∷ more) = omega (arith, after_length next more, length-append (name ++ bytes ",") (joined_after next more), length-append name (bytes ","))

-- as long in all, so as long where they are joined
joined_same : (some others : List (List ℕ)) → total some ≡ total others → length (joined some) ≡ length (joined others)
unfolding joined total
joined_same [] [] same = refl
joined_same [] (t ∷ others) same = absurd (omega (arith, same))
joined_same (s ∷ some) [] same = absurd (omega (arith, same))
joined_same (s ∷ some) (t ∷ others) same = omega (arith, same, after_length s some, after_length t others)

-- ---- names by their places

-- the bytes of the name at a place, and one more
abbrev name_weight : List Name → ℕ → ℕ
name_weight table place = suc (length (spelled (name_at table place)))

module _ {table : List Name} (named : Named table) where
  -- a declared name stands at its place,
  pub at_place : (name : List ℕ) → is_declared table name ≡ true → name_at table (placed table name) ≡ packed name
  unfolding is_declared placed name_at
  at_place name known =
      let here = ltb-true (placed table name) (length table) known in
      let single = named.single (packed []) (placed table name) here in
      place_one_to_one table (name_at table (placed table name)) (packed name) single (omega (arith, single, here))

  -- so its bytes are counted there,
  placed_weight : (name : List ℕ) → is_name name ≡ true → is_declared table name ≡ true → name_weight table (placed table name) ≡ suc (length name)
  placed_weight name form known = ap suc (ap length (ap spelled (at_place name known) ∙ spelled-packed name form))

  -- and two names that differ stand at two places
  other_places : (name other : List ℕ) → is_name name ≡ true → is_name other ≡ true → is_declared table name ≡ true → same_bytes name other ≡ false → eqb (placed table name) (placed table other) ≡ false
  unfolding is_declared placed
  other_places name other form form' known differ =
      ne_eqb (placed table name) (placed table other) (λ same.
      let one = place_one_to_one table (packed name) (packed other) same (ltb-true (placed table name) (length table) known) in
      absurd (false≢true (sym differ ∙ ap (same_bytes name) (sym (sym (spelled-packed name form) ∙ ap spelled one ∙ spelled-packed other form')) ∙ equal_same name)))

  -- ---- the set that names say

  -- a name whose role is not in a set
  unfoldable pub is_fresh : RoleSet → List ℕ → Bool
  is_fresh set name = not (has_role set (placed table name))

  -- names stay new to a set when another one is added
  pub fresh_on : (few : length table ≤ 128) (set : RoleSet) (name : List ℕ) (rest : List (List ℕ)) → is_name name ≡ true → is_declared table name ≡ true → every is_name rest ≡ true → among name rest ≡ false → every (is_fresh set) rest ≡ true
      → every (is_fresh (with_of set (placed table name))) rest ≡ true
  unfolding every among is_fresh is_declared
  fresh_on few set name [] form known forms alone fresh = refl
  fresh_on few set name (next ∷ rest) form known forms alone fresh =
      let parts = (and-eq-true_iff (is_name next) (every is_name rest)).0 forms in
      let new = (and-eq-true_iff (not (has_role set (placed table next))) (every (is_fresh set) rest)).0 fresh in
      let apart = neither (same_bytes name next) (among name rest) alone in
      ap₂ ◌&&◌ (ap not (has_with set (placed table name) (placed table next) (below) ∙ ap₂ ◌||◌ (not-true (has_role set (placed table next)) new.0) (other_places name next form parts.0 known apart.0)))
      (fresh_on few set name rest form known parts.1 apart.1 new.1)
    where
      below : placed table name < 128
      below = omega (arith, few, ltb-true (placed table name) (length table) known)

  -- each name adds its bytes
  names_weight : (few : length table ≤ 128) (fields : List (List ℕ)) (set : RoleSet) → every is_name fields ≡ true → every (is_declared table) fields ≡ true → repeated fields ≡ false → every (is_fresh set) fields ≡ true
      → weight (name_weight table) (length table) (roles_from table set fields) ≡ weight (name_weight table) (length table) set + total fields
  unfolding roles_from total every repeated is_fresh is_declared
  names_weight few [] set forms known single fresh = omega arith
  names_weight few (name ∷ rest) set forms known single fresh =
      let form = (and-eq-true_iff (is_name name) (every is_name rest)).0 forms in
      let declared = (and-eq-true_iff (is_declared table name) (every (is_declared table) rest)).0 known in
      let alone = neither (among name rest) (repeated rest) single in
      let new = (and-eq-true_iff (is_fresh set name) (every (is_fresh set) rest)).0 fresh in
      let on = names_weight few rest (with_of set (placed table name)) form.1 declared.1 alone.1 (fresh_on few set name rest form.0 declared.0 form.1 alone.0 new.1) in
      omega (arith, on, one name set declared.0 new.0, placed_weight name form.0 declared.0)
    where
      one : (name : List ℕ) (set : RoleSet) → is_declared table name ≡ true → is_fresh set name ≡ true → weight (name_weight table) (length table) (with_of set (placed table name)) ≡ weight (name_weight table) (length table) set + name_weight table (placed table name)
      one name set known new = weight_with (name_weight table) (length table) set (placed table name) (ltb-true (placed table name) (length table) known) few (not-true (has_role set (placed table name)) new)

-- ---- the set written in role order

-- the names of a set have the bytes of its roles, where the first name is the role of a number
names-total : (table names : List Name) (role : ℕ) (set : RoleSet) → ((k : ℕ) → name_at names k ≡ name_at table (role + k)) → total (names_from role set names) ≡ sum_from role (length names) (λ (r : ℕ). cond (has_role set r) (name_weight table r) 0)
unfolding names_from total sum_from name_at
names-total table [] role set same = refl
names-total table (name ∷ names) role set same = go (has_role set role) (names-total table names (suc role) set (λ k. same (suc k) ∙ ap (name_at table) (on k)))
  where
    on : (k : ℕ) → role + suc k ≡ suc role + k
    on k = omega arith

    own : spelled name ≡ spelled (name_at table role)
    own = ap spelled (same 0 ∙ ap (name_at table) (add-zero role))

    go : (b : Bool) → total (names_from (suc role) set names) ≡ sum_from (suc role) (length names) (λ (r : ℕ). cond (has_role set r) (name_weight table r) 0)
        → total (cond b (spelled name ∷ names_from (suc role) set names) (names_from (suc role) set names)) ≡ cond b (name_weight table role) 0 + sum_from (suc role) (length names) (λ (r : ℕ). cond (has_role set r) (name_weight table r) 0)
    go true below = omega (arith, below, ap length own)
    go false below = omega (arith, below)

-- A set field is as long as its set in role order.
pub set_length : {table : List Name} → Named table → length table ≤ 128 → (field : List ℕ) → is_set field ≡ true → all_declared table field ≡ true → length (set_text table (roles_of table field)) ≡ length field
unfolding set_text roles_of is_set all_declared weight every is_fresh
set_length {table} named few field form known =
    let parts = (and-eq-true_iff (every is_name (names_of field)) (not (repeated (names_of field)))).0 form in
    let written = names_weight named few (names_of field) empty_set parts.0 known (not-true (repeated (names_of field)) parts.1) (all_fresh named (names_of field)) in
    let role-order = names-total table table 0 (roles_from table empty_set (names_of field)) (λ k. ap (name_at table) (sym (zero-add k))) in
    joined_same (names_from 0 (roles_from table empty_set (names_of field)) table) (names_of field) (omega (arith, written, role-order, weight_none (name_weight table) (length table))) ∙ sym (ap length (names-joined field))
  where
    all_fresh : {table : List Name} (named : Named table) (fields : List (List ℕ)) → every (is_fresh named empty_set) fields ≡ true
    all_fresh {table} named [] = refl
    all_fresh {table} named (name ∷ fields) = ap₂ ◌&&◌ (ap not (has_empty (placed table name))) (all_fresh named fields)
