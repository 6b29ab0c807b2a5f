-- The pieces between separators: lines between LFs, fields between tabs, names between commas.
use Rattle.std.specs.Prelude.{ℕ, ◌+◌, ◌-◌, ◌≤◌, Bool, true, false, cond, ◌&&◌, ◌||◌, List, [], ◌∷◌, ◌++◌, ◌≡◌, eqb, length, take, drop}
use Rattle.text.specs.Index.{index_of}

-- one byte more in the first piece
unfoldable pub onto : ℕ → List (List ℕ) → List (List ℕ)
onto byte [] = (byte ∷ []) ∷ []
onto byte (piece ∷ pieces) = (byte ∷ piece) ∷ pieces

-- the pieces between separators: one more than there are separators
unfoldable pub split : ℕ → List ℕ → List (List ℕ)
split mark [] = [] ∷ []
split mark (byte ∷ rest) = cond (eqb byte mark) ([] ∷ split mark rest) (onto byte (split mark rest))

-- pieces put together again, parted by the separator
unfoldable pub parted : ℕ → List (List ℕ) → List ℕ
parted mark [] = []
parted mark (piece ∷ []) = piece
parted mark (piece ∷ more ∷ pieces) = piece ++ (mark ∷ parted mark (more ∷ pieces))

-- two byte strings are the same
unfoldable pub same_bytes : List ℕ → List ℕ → Bool
same_bytes [] [] = true
same_bytes [] (b ∷ t) = false
same_bytes (a ∷ s) [] = false
same_bytes (a ∷ s) (b ∷ t) = eqb a b && same_bytes s t

-- a byte string is among others
unfoldable pub among : List ℕ → List (List ℕ) → Bool
among s [] = false
among s (t ∷ others) = same_bytes s t || among s others

-- some byte string stands twice
unfoldable pub repeated : List (List ℕ) → Bool
repeated [] = false
repeated (s ∷ others) = among s others || repeated others

-- the place of the first separator from a place on, or the end
pub record Sought (s : List ℕ) (from mark place : ℕ) : Type 0 where
  pub first : place ≡ from + index_of mark (drop from s)
  pub within : place ≤ length s

-- the bytes from one place to another
abbrev pub part : List ℕ → ℕ → ℕ → List ℕ
part s from to = take (to - from) (drop from s)
