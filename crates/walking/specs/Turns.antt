-- The tests of a line in turn: the first that fails decides with which number the line is refused.
use Rattle.std.specs.Prelude.{ℕ, Bool, true, false, cond, List, [], ◌∷◌, ◌⊎◌, ◌≡◌}

-- A test of a line, and the number with which a line that fails it is refused.
pub data Test : Type 0 where
  test : (number : ℕ) (passes : Bool) → Test

-- What a line comes to: refused with the number of the first test that fails, and good where all pass.
unfoldable pub in_turn : {A : Type 0} (bad : ℕ → A) → List Test → (good : A) → A
in_turn bad [] good = good
in_turn bad (test number passes ∷ more) good = cond passes (in_turn bad more good) (bad number)

-- All tests pass.
abbrev pub Pass : List Test → Type 0
Pass [] = Unit {0}
Pass (test number passes ∷ more) = (passes ≡ true) × Pass more

-- The first test that fails has the number.
abbrev pub Fails : List Test → (number : ℕ) → Type 0
Fails [] k = ⊥
Fails (test number passes ∷ more) k = ((passes ≡ false) × (number ≡ k)) ⊎ ((passes ≡ true) × Fails more k)
