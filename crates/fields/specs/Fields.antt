-- Names and sets of names against a table of declared names.
use Rattle.std.specs.Prelude.{ℕ, Bool, cond, not, ◌&&◌, List, [], ◌∷◌, Result, Ok, Err, ltb, length}
use Rattle.roles.specs.declared.RoleSet.{RoleSet}
use Rattle.roles.specs.Sets.{empty_set, with_of}
use Rattle.tables.specs.declared.Name.{Name}
use Rattle.text.specs.Forms.{every, is_name, is_set, names_of}
use Rattle.tables.specs.Names.{packed, place_of}
use Rattle.text.specs.Pieces.{repeated}
use Rattle.walking.specs.declared.Fault.{Fault}

-- where a name stands in a table, the number of names where it is not declared
unfoldable pub placed : List Name → List ℕ → ℕ
placed names field = place_of names (packed field)

unfoldable pub is_declared : List Name → List ℕ → Bool
is_declared names field = ltb (placed names field) (length names)

-- every name of a set field is declared
unfoldable pub all_declared : List Name → List ℕ → Bool
all_declared names field = every (is_declared names) (names_of field)

-- the roles of names, added to a set
unfoldable pub roles_from : List Name → RoleSet → List (List ℕ) → RoleSet
roles_from names roles [] = roles
roles_from names roles (name ∷ rest) = roles_from names (with_of roles (placed names name)) rest

-- the roles of a set field
unfoldable pub roles_of : List Name → List ℕ → RoleSet
roles_of names field = roles_from names empty_set (names_of field)

-- what a field is read as: malformed, then undeclared, and else its value
unfoldable pub field_read : {A : Type 0} (formed declared : Bool) → A → Result A Fault
field_read formed declared value = cond formed (cond declared (Ok value) (Err Fault.Undeclared)) (Err Fault.Malformed)

-- a name field read against a table: the name's place
unfoldable pub name_read : List Name → List ℕ → Result ℕ Fault
name_read names field = field_read (is_name field) (is_declared names field) (placed names field)

-- a set field read against a table: its roles
unfoldable pub set_read : List Name → List ℕ → Result RoleSet Fault
set_read names field = field_read (is_set field) (all_declared names field) (roles_of names field)

-- the worse of two faults: malformed where one of them is, and else the first
unfoldable pub worse : Fault → Fault → Fault
worse first Fault.Malformed = Fault.Malformed
worse first Fault.AboveLimit = first
worse first Fault.Undeclared = first

-- what two fields are read as: both values, or the worse fault
unfoldable pub both_read : {A B : Type 0} → Result A Fault → Result B Fault → Result (A × B) Fault
both_read (Ok a) (Ok b) = Ok (a, b)
both_read (Ok a) (Err fault) = Err fault
both_read (Err fault) (Ok b) = Err fault
both_read (Err first) (Err second) = Err (worse first second)

-- names that make a set: each is a name, and none stands twice
unfoldable pub are_set : List (List ℕ) → Bool
are_set names = every is_name names && not (repeated names)

-- the fault of a set field, one of whose names has a fault
unfoldable pub set_fault : (field : List ℕ) → Fault → Fault
set_fault field fault = cond (is_set field) fault Fault.Malformed
