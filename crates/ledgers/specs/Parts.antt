-- A part of a ledger: rows of so many words, one after the other, and what the words of each say.
use Rattle.std.specs.Prelude.{ℕ, zero, suc, ◌+◌, ◌*◌, List, [], ◌∷◌}
use Rattle.std.proofs.lemmas.List.Edits.{sets}

-- How many words a row has, what the words from a place on say, and the words of the row that says something.
pub record Rows (A : Type 0) : Type 0 where
  pub width : ℕ
  pub says : List ℕ → ℕ → A
  pub row : A → List ℕ

-- Where the part begins, and what its rows are.
pub record Part (A : Type 0) : Type 0 where
  pub from : ℕ
  pub rows : Rows A

-- The part of such rows that begins at a word.
abbrev pub part_of : {A : Type 0} → Rows A → ℕ → Part A
part_of rows from = record { from = from; rows = rows }

-- What the row at a place says, counted from 0.
abbrev pub row_at : {A : Type 0} → Part A → List ℕ → ℕ → A
row_at part words place = part.rows.says words (part.from + part.rows.width * place)

-- The words with the row at a place stored.
abbrev pub stored : {A : Type 0} → Part A → List ℕ → ℕ → A → List ℕ
stored part words place a = sets words (part.from + part.rows.width * place) (part.rows.row a)

-- So many rows from a place on.
unfoldable pub rows_from : {A : Type 0} → Part A → List ℕ → ℕ → ℕ → List A
rows_from part words place zero = []
rows_from part words place (suc count) = row_at part words place ∷ rows_from part words (suc place) count

-- The first rows. What stands past them is not looked at.
unfoldable pub rows_in : {A : Type 0} → Part A → List ℕ → ℕ → List A
rows_in part words count = rows_from part words 0 count
