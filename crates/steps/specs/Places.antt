-- An element of a list and its place.
use Rattle.std.specs.Prelude.{ℕ, suc, List, ◌∷◌}

-- The element stands at this place of the list, counted from 0.
pub data At {A : Type 0} (a : A) : List A → ℕ → Type 0 where
  here : {l : List A} → At a (a ∷ l) 0
  there : {b : A} {l : List A} {place : ℕ} → At a l place → At a (b ∷ l) (suc place)
