-- The form of a name, a set, a label and a rule number, in the order of document 01, "The texts".
use Rattle.std.specs.Prelude.{ℕ, ◌+◌, ◌-◌, ◌*◌, Bool, true, cond, not, ◌&&◌, ◌||◌, List, [], ◌∷◌, eqb, leb, length, get_or, Option, Some, None}
use Prim.Native.Char.{code}
use Prim.Native.String.{String}
use Rattle.text.specs.Pieces.{split, same_bytes, repeated}

-- the bytes of an ASCII text
abbrev pub bytes : String → List ℕ
bytes String.[] = []
bytes (String.◌∷◌ c rest) = code c ∷ bytes rest

-- every element passes the test
unfoldable pub every {ℓ} : {A : Type ℓ} → (A → Bool) → List A → Bool
every test [] = true
every test (a ∷ rest) = test a && every test rest

-- a byte from one to another
unfoldable pub between : ℕ → ℕ → ℕ → Bool
between least most byte = leb least byte && leb byte most

-- ASCII letters, digits and `_`
unfoldable pub name_byte : ℕ → Bool
name_byte byte = between 65 90 byte || between 97 122 byte || between 48 57 byte || eqb byte 95

-- names have 1 to 32 bytes of them
unfoldable pub is_name : List ℕ → Bool
is_name s = leb 1 (length s) && leb (length s) 32 && every name_byte s

-- a set is names joined by commas; the empty set is `-`
unfoldable pub names_of : List ℕ → List (List ℕ)
names_of field = cond (same_bytes field (bytes "-")) [] (split 44 field)

-- without repeats
unfoldable pub is_set : List ℕ → Bool
is_set field = every is_name (names_of field) && not (repeated (names_of field))

-- a clearance or a label is `L` or `H`
unfoldable pub is_label : List ℕ → Bool
is_label field = same_bytes field (bytes "L") || same_bytes field (bytes "H")

-- a rule number has 1 to 3 digits and no leading zero
unfoldable pub is_number : List ℕ → Bool
is_number s = leb 1 (length s) && leb (length s) 3 && not (eqb (get_or s 0 0) 48) && every (between 48 57) s

-- the number that digits write, after a number that stands before them
unfoldable pub decimal : ℕ → List ℕ → ℕ
decimal before [] = before
decimal before (digit ∷ rest) = decimal (before * 10 + (digit - 48)) rest

-- the number written, 0 where none is
unfoldable pub number_of : List ℕ → ℕ
number_of s = cond (is_number s) (decimal 0 s) 0

-- the number that a field writes, if it writes one
unfoldable pub number_in : List ℕ → Option ℕ
number_in s = cond (is_number s) (Some (decimal 0 s)) None
