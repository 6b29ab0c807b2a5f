-- A sheet's words, two to a set: the roles labelled H, and then each role's row of four sets.
use Rattle.std.specs.Prelude.{ℕ, zero, suc, ◌+◌, ◌*◌, List, [], ◌∷◌, get_or}
use Rattle.roles.specs.declared.RoleSet.{RoleSet}
use Rattle.model.specs.declared.Typing.{Typing as Table}
use Rattle.sheets.specs.declared.Column.{Column}
use Rattle.sheets.specs.Turned.{Turned, turned_of}

-- The columns by their number in a row.
abbrev pub column_number : Column → ℕ
column_number Column.Plus = 1
column_number Column.Minus = 2
column_number Column.Needed = 3
column_number Column.Opposed = 4

-- The place of a role's set in a column; at place 0 stand the roles labelled H.
unfoldable pub place_of : Column → ℕ → ℕ
place_of column role = 4 * role + column_number column

-- The set at a place; past the sheet, the empty set.
unfoldable pub set_at : List ℕ → ℕ → RoleSet
set_at sheet place = record { low = get_or sheet (2 * place) 0; high = get_or sheet (2 * place + 1) 0 }

-- The roles labelled H.
abbrev pub high_in : List ℕ → RoleSet
high_in sheet = record { low = get_or sheet 0 0; high = get_or sheet 1 0 }

-- A role's set in a column.
unfoldable pub set_in : List ℕ → Column → ℕ → RoleSet
set_in sheet column role = set_at sheet (place_of column role)

-- What a sheet says.
unfoldable pub said_in : List ℕ → Turned
said_in sheet = record {
  plus = set_in sheet Column.Plus;
  minus = set_in sheet Column.Minus;
  needed = set_in sheet Column.Needed;
  opposed = set_in sheet Column.Opposed;
  high = high_in sheet;
}

-- The sets of the rows from a role on, one after the other.
unfoldable pub rows_from : Turned → (role : ℕ) → ℕ → RoleSet
rows_from said role zero = said.plus role
rows_from said role (suc zero) = said.minus role
rows_from said role (suc (suc zero)) = said.needed role
rows_from said role (suc (suc (suc zero))) = said.opposed role
rows_from said role (suc (suc (suc (suc place)))) = rows_from said (suc role) place

-- The sets by their place: the roles labelled H, then the rows.
unfoldable pub placed : Turned → ℕ → RoleSet
placed said zero = said.high
placed said (suc place) = rows_from said 0 place

-- The words of so many sets.
unfoldable pub words_of : (ℕ → RoleSet) → ℕ → List ℕ
words_of sets zero = []
words_of sets (suc count) = (sets 0).low ∷ (sets 0).high ∷ words_of (λ place. sets (suc place)) count

-- The sheet of a typing over its first roles: the roles labelled H, and 128 rows of four sets.
unfoldable pub sheet_of : Table → ℕ → List ℕ
sheet_of t roles = words_of (placed (turned_of t roles)) 513
