-- Pinned is the number of names in all plus and minus fields of a typing text, from its bytes.
use Rattle.std.specs.Prelude.{ℕ, ◌+◌, List, [], ◌∷◌, length}
use Rattle.text.specs.Forms.{names_of}
use Rattle.text.specs.Pieces.{split}

-- How many names stand in the plus field and the minus field of a line, by its fields: only a line of four fields has them.
unfoldable pub field_names : List (List ℕ) → ℕ
field_names [] = 0
field_names (a ∷ []) = 0
field_names (a ∷ b ∷ []) = 0
field_names (a ∷ b ∷ c ∷ []) = 0
field_names (name ∷ label ∷ plus ∷ minus ∷ []) = length (names_of plus) + length (names_of minus)
field_names (a ∷ b ∷ c ∷ d ∷ e ∷ more) = 0

-- in the lines together
unfoldable pub line_names : List (List ℕ) → ℕ
line_names [] = 0
line_names (line ∷ lines) = field_names (split 9 line) + line_names lines

-- How many names stand in all plus and minus fields of a text.
unfoldable pub names_in : List ℕ → ℕ
names_in text = line_names (split 10 text)
