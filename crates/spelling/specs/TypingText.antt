-- A typing as a text: the header, a line for each role, `end`; the names of a set in role order.
use Rattle.std.specs.Prelude.{ℕ, suc, Bool, cond, List, [], ◌∷◌, ◌++◌}
use Rattle.roles.specs.declared.RoleSet.{RoleSet}
use Rattle.roles.specs.Sets.{has_role}
use Rattle.model.specs.declared.Typing.{Typing as Table}
use Rattle.model.specs.Typing.{Typing}
use Rattle.model.specs.Meaning.{meaning}
use Rattle.tables.specs.declared.Name.{Name}
use Rattle.text.specs.Forms.{bytes}
use Rattle.writing.specs.Written.{spelled}

-- The names of a set's roles, in role order, where the first name given is the role of the given number.
unfoldable pub names_from : ℕ → RoleSet → List Name → List (List ℕ)
names_from role set [] = []
names_from role set (name ∷ names) = cond (has_role set role) (spelled name ∷ names_from (suc role) set names) (names_from (suc role) set names)

-- Names joined by commas; none are `-`.
unfoldable pub joined_after : List ℕ → List (List ℕ) → List ℕ
joined_after name [] = name
joined_after name (next ∷ more) = name ++ bytes "," ++ joined_after next more

unfoldable pub joined : List (List ℕ) → List ℕ
joined [] = bytes "-"
joined (name ∷ more) = joined_after name more

unfoldable pub set_text : List Name → RoleSet → List ℕ
set_text names set = joined (names_from 0 set names)

unfoldable pub label_text : Bool → List ℕ
label_text label = cond label (bytes "H") (bytes "L")

-- A role's line: its name, label, plus set and minus set.
unfoldable pub row_text : List Name → Name → Bool → (plus minus : RoleSet) → List ℕ
row_text names name label plus minus = spelled name ++ bytes "\t" ++ label_text label ++ bytes "\t" ++ set_text names plus ++ bytes "\t" ++ set_text names minus ++ bytes "\n"

-- The lines of the roles from the given number on.
unfoldable pub rows_text : List Name → Typing → ℕ → List Name → List ℕ
rows_text names Γ role [] = []
rows_text names Γ role (name ∷ more) = row_text names name (Γ.label role) (Γ.plus role) (Γ.minus role) ++ rows_text names Γ (suc role) more

-- The whole text, over the policy's role names.
unfoldable pub typing_text : List Name → Table → List ℕ
typing_text names t = bytes "typing\t1\n" ++ rows_text names (meaning t) 0 names ++ bytes "end\n"
