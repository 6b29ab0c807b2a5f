-- A name packed into four 64-bit words, tables of packed names, and where a name stands in one.
use Rattle.std.specs.Prelude.{ℕ, zero, suc, ◌+◌, ◌*◌, Bool, cond, ◌&&◌, List, [], ◌∷◌, eqb, ltb, length, get_or, take, drop, Option, Some, None}
use Rattle.tables.specs.declared.Name.{Name}

-- bytes as one number, the first byte lowest
unfoldable pub value : List ℕ → ℕ
value [] = 0
value (byte ∷ rest) = byte + 256 * value rest

-- bytes 0 to 7, 8 to 15, 16 to 23 and 24 to 31
unfoldable pub packed : List ℕ → Name
packed s = record {
  first = value (take 8 s);
  second = value (take 8 (drop 8 s));
  third = value (take 8 (drop 16 s));
  fourth = value (take 8 (drop 24 s));
}

-- the same four words
unfoldable pub same_name : Name → Name → Bool
same_name m n = eqb m.first n.first && eqb m.second n.second && eqb m.third n.third && eqb m.fourth n.fourth

-- the place of a name, from 0, or the number of names where it stands nowhere
unfoldable pub place_of : List Name → Name → ℕ
place_of [] name = 0
place_of (first ∷ rest) name = cond (same_name first name) 0 (suc (place_of rest name))

-- the place of a name, if it stands among the names
unfoldable pub found_in : List Name → Name → Option ℕ
found_in names name = cond (ltb (place_of names name) (length names)) (Some (place_of names name)) None

-- the name at a place, from 0; the name of no bytes where there is none
unfoldable pub name_at : List Name → ℕ → Name
name_at names place = get_or names place (packed [])

-- the first name of a table of names, four words each
unfoldable pub row_of : List ℕ → Name
row_of table = record { first = get_or table 0 0; second = get_or table 1 0; third = get_or table 2 0; fourth = get_or table 3 0 }

-- its first names
unfoldable pub rows : ℕ → List ℕ → List Name
rows zero table = []
rows (suc count) table = row_of table ∷ rows count (drop 4 table)
