-- Bytes put into a lent buffer, and how a name and a number are spelled.
use Rattle.std.specs.Prelude.{ℕ, zero, suc, ◌+◌, ◌/◌, ◌%◌, cond, List, [], ◌∷◌, ◌++◌, eqb, ltb, length, drop}
use Rattle.tables.specs.declared.Name.{Name}

-- The buffer with the bytes at its start; past them it is as it was.
unfoldable pub put : (bytes buffer : List ℕ) → List ℕ
put bytes buffer = bytes ++ drop (length bytes) buffer

-- up to so many bytes of a word, the lowest first, none past its last
unfoldable pub letters : ℕ → ℕ → List ℕ
letters zero word = []
letters (suc most) word = cond (eqb word 0) [] ((word % 256) ∷ letters most (word / 256))

-- The bytes of a packed name.
unfoldable pub spelled : Name → List ℕ
spelled name = letters 8 name.first ++ letters 8 name.second ++ letters 8 name.third ++ letters 8 name.fourth

-- up to so many digits of a number, and one at least
unfoldable pub digits_of : ℕ → ℕ → List ℕ
digits_of zero n = (48 + n % 10) ∷ []
digits_of (suc more) n = cond (ltb n 10) ((48 + n) ∷ []) (digits_of more (n / 10) ++ ((48 + n % 10) ∷ []))

-- A number in decimal digits without a leading zero; a 64-bit number has 20 at most.
unfoldable pub decimal : ℕ → List ℕ
decimal n = digits_of 19 n
