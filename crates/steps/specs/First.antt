-- The first element of a list that passes a test, told by its number from 1 and by its place from 0.
use Prim.Native.Nat.{ℕ, zero, suc, ◌+◌, ◌<◌}
use Rattle.std.specs.Prelude.{Bool, true, false, cond, ◌↔◌, ◌⊎◌, ◌≡◌, Some, None, position, length, get_or}
use mathlib.Core.List.{List, [], ◌∷◌}
use Rattle.std.proofs.Common.{inl, inr, ◌∙◌, lt-ltb, le-ltb}
use Rattle.std.proofs.Math.Path.{refl, sym}
use Rattle.std.proofs.lemmas.List.Quantifiers.{position-Some}
use Rattle.std.proofs.lemmas.List.Sums.{position_or_len_is}
use Rattle.std.proofs.lemmas.Option.{none-some}
use native.Mathlib.Omega.{arith}

-- the number of the first that passes, where so many stand before the list; 0 where none does
unfoldable pub first_from : {A : Type 0} → (A → Bool) → ℕ → List A → ℕ
first_from test before [] = 0
first_from test before (a ∷ l) = cond (test a) (suc before) (first_from test (suc before) l)

unfoldable pub first : {A : Type 0} → (A → Bool) → List A → ℕ
first test l = first_from test 0 l

-- ---- what the number says

-- The element at the place passes the test, and none before it does.
pub record Earliest {A : Type 0} (test : A → Bool) (d : A) (l : List A) (place : ℕ) : Type 0 where
  pub inside : place < length l
  pub passes : test (get_or l place d) ≡ true
  pub earlier : (other : ℕ) → other < place → test (get_or l other d) ≡ false

-- No element passes.
pub record Nowhere {A : Type 0} (test : A → Bool) (d : A) (l : List A) : Type 0 where
  pub fails : (place : ℕ) → place < length l → test (get_or l place d) ≡ false

module _ {A : Type 0} (test : A → Bool) (d : A) where
  from_earliest : (before : ℕ) (l : List A) (place : ℕ) → Earliest test d l place → first_from test before l ≡ suc (before + place)
  unfolding first_from
  from_earliest before [] place found = absurd (omega (arith, found.inside))
  from_earliest before (a ∷ l) zero found = rw found.passes (omega arith)
  from_earliest before (a ∷ l) (suc place) found =
      let rest : Earliest test d l place = record { inside = omega (arith, found.inside); passes = found.passes; earlier = λ other lt. found.earlier (suc other) (omega arith) } in
      rw (found.earlier 0 (omega arith)) (from_earliest (suc before) l place rest ∙ omega arith)

  from_nowhere : (before : ℕ) (l : List A) → Nowhere test d l → first_from test before l ≡ 0
  unfolding first_from
  from_nowhere before [] none = refl
  from_nowhere before (a ∷ l) none =
      rw (none.fails 0 (omega arith)) (from_nowhere (suc before) l (record { fails = λ place lt. none.fails (suc place) (omega arith) }))

  -- one of the two holds
  pub look : (l : List A) → ((place : ℕ) × Earliest test d l place) ⊎ Nowhere test d l
  look [] = inr (record { fails = λ place lt. absurd (omega arith) })
  look (a ∷ l) = go (test a) refl (look l)
    where
      go : (b : Bool) → test a ≡ b → ((place : ℕ) × Earliest test d l place) ⊎ Nowhere test d l → ((place : ℕ) × Earliest test d (a ∷ l) place) ⊎ Nowhere test d (a ∷ l)
      go true e rest = inl (0, record { inside = omega arith; passes = e; earlier = λ other lt. absurd (omega arith) })
      go false e (inl (place, found)) = inl (suc place, record { inside = omega (arith, found.inside); passes = found.passes; earlier = earlier })
        where
          earlier : (other : ℕ) → other < suc place → test (get_or (a ∷ l) other d) ≡ false
          earlier zero lt = e
          earlier (suc other) lt = found.earlier other (omega arith)
      go false e (inr none) = inr (record { fails = fails })
        where
          fails : (place : ℕ) → place < length (a ∷ l) → test (get_or (a ∷ l) place d) ≡ false
          fails zero lt = e
          fails (suc place) lt = none.fails place (omega arith)

  earliest_first : (l : List A) (place : ℕ) → Earliest test d l place → first test l ≡ suc place
  unfolding first
  earliest_first l place found = from_earliest 0 l place found ∙ omega arith

  nowhere_first : (l : List A) → Nowhere test d l → first test l ≡ 0
  unfolding first
  nowhere_first l none = from_nowhere 0 l none

  -- The number is that of a place exactly when the element there is the first that passes.
  pub first_some : (l : List A) (place : ℕ) → first test l ≡ suc place ↔ Earliest test d l place
  first_some l place = (go (look l), earliest_first l place)
    where
      go : ((place : ℕ) × Earliest test d l place) ⊎ Nowhere test d l → first test l ≡ suc place → Earliest test d l place
      go (inl (there, found)) e =
          let same : there ≡ place = omega (arith, earliest_first l there found) in
          rw same at found
      go (inr none) e = absurd (omega (arith, nowhere_first l none))

  -- The number is 0 exactly when no element passes.
  pub first_none : (l : List A) → first test l ≡ 0 ↔ Nowhere test d l
  first_none l = (go (look l), nowhere_first l)
    where
      go : ((place : ℕ) × Earliest test d l place) ⊎ Nowhere test d l → first test l ≡ 0 → Nowhere test d l
      go (inl (there, found)) e = absurd (omega (arith, earliest_first l there found))
      go (inr none) e = none

  earliest_place : (l : List A) (place : ℕ) → Earliest test d l place → position test l ≡ Some place
  earliest_place l place found =
      let is = position_or_len_is test l place d (omega (arith, found.inside)) found.earlier (λ inside. found.passes) in
      rw (is, lt-ltb place (length l) found.inside) refl

  nowhere_place : (l : List A) → Nowhere test d l → position test l ≡ None
  nowhere_place l none =
      let is = position_or_len_is test l (length l) d (omega arith) none.fails (λ inside. absurd (omega arith)) in
      rw (is, le-ltb (length l) (length l) (omega arith)) refl

  -- The place is that of an element exactly when it is the first that passes.
  pub place_some : (l : List A) (place : ℕ) → position test l ≡ Some place ↔ Earliest test d l place
  place_some l place = (
    λ is.
        let (inside, passes, earlier) = position-Some test l place d is in
        record { inside = inside; passes = passes; earlier = earlier },
    earliest_place l place,
  )

  -- There is no place exactly when no element passes.
  pub place_none : (l : List A) → position test l ≡ None ↔ Nowhere test d l
  place_none l = (go (look l), nowhere_place l)
    where
      go : ((place : ℕ) × Earliest test d l place) ⊎ Nowhere test d l → position test l ≡ None → Nowhere test d l
      go (inl (there, found)) e = absurd (none-some there (sym e ∙ earliest_place l there found))
      go (inr none) e = none
