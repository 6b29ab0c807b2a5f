-- The name at a place of a table of names, as a field of a line; and a name that is not yet among the names before it.
use Rattle.std.specs.Prelude.{ℕ, zero, suc, ◌≤◌, ◌<◌, Bool, true, false, cond, List, [], ◌∷◌, ◌≡◌, length, take}
use Rattle.std.proofs.Common.{zero-le, ◌∙◌, length-take-le, arith}
use borrow.Author.Tests.{lt-ltb}
use Rattle.text.specs.Forms.{is_name}
use Rattle.tables.specs.declared.Name.{Name}
use Rattle.tables.specs.Names.{packed, place_of, same_name, name_at}
use Rattle.tables.specs.Named.{Spelt, Named}
use Rattle.fields.specs.Fields.{placed, is_declared}
use Rattle.steps.proofs.PlaceLaws.{stands_at, at_listed}
use Rattle.writing.specs.Written.{spelled}
use Rattle.rereading.specs.Cuts.{free, free_name}
use Rattle.rereading.specs.Joined.{Apart}
use Rattle.rereading.specs.Standing.{spelled_form, spelled-placed}

-- a name that is spelled has no tab and no LF
pub name_free : {mark : ℕ} {name : Name} → Apart mark → Spelt name → free mark (spelled name) ≡ true
name_free {mark} {name} apart spelt = free_name mark (spelled name) apart.letter (spelled_form spelt)

module _ {names : List Name} (all : Named names) {place : ℕ} (here : place < length names) where
  -- The name at a place is well formed,
  pub at_spelt : Spelt (name_at names place)
  unfolding name_at
  at_spelt = all.spelt (name_at names place) (at_listed (stands_at (packed []) names place here))

  pub at_form : is_name (spelled (name_at names place)) ≡ true
  at_form = spelled_form at_spelt

  -- stands there,
  pub at_placed : placed names (spelled (name_at names place)) ≡ place
  unfolding name_at
  at_placed = spelled-placed names at_spelt ∙ all.single (packed []) place here

  -- is declared,
  pub at_declared : is_declared names (spelled (name_at names place)) ≡ true
  unfolding is_declared
  at_declared = lt-ltb (placed names (spelled (name_at names place))) (length names) (omega (arith, at_placed, here))

  -- and has neither tab nor LF.
  pub at_free : {mark : ℕ} → Apart mark → free mark (spelled (name_at names place)) ≡ true
  at_free apart = name_free apart at_spelt

-- ---- the names before a name

-- a name that stands at a place or past it is not among the names before the place
past_first : (names : List Name) (name : Name) (place : ℕ) → place ≤ length names → place ≤ place_of names name → place ≤ place_of (take place names) name
unfolding place_of
past_first names name zero here past = zero-le
past_first [] name (suc place) here past = absurd (omega arith)
past_first (first ∷ names) name (suc place) here past = go (same_name first name) past (past_first names name place (omega arith))
  where
    go : (b : Bool) → suc place ≤ cond b 0 (suc (place_of names name)) → (place ≤ place_of names name → place ≤ place_of (take place names) name) → suc place ≤ cond b 0 (suc (place_of (take place names) name))
    go true later below = absurd (omega arith)
    go false later below = omega (arith, below (omega arith))

-- The name at a place is not among the names before it.
pub new_at : {names : List Name} → Named names → (place : ℕ) → place < length names → length (take place names) ≤ place_of (take place names) (name_at names place)
unfolding name_at
new_at {names} all place here =
    omega (arith, length-take-le place names (omega arith), past_first names (name_at names place) place (omega arith) (omega (arith, all.single (packed []) place here)))
