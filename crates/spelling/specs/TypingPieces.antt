-- The pieces in which a typing's text is written: a role's name in a set, a label between its tabs, a set and the byte that ends its field.
use Rattle.std.specs.Prelude.{ℕ, Bool, cond, List, [], ◌∷◌, ◌++◌}
use Rattle.roles.specs.declared.RoleSet.{RoleSet}
use Rattle.tables.specs.declared.Name.{Name}
use Rattle.text.specs.Forms.{bytes}
use Rattle.writing.specs.Written.{spelled}
use Rattle.spelling.specs.TypingText.{set_text, label_text}

-- What a role adds to a set's text: nothing for no member, and a comma before the name where some name stands before.
unfoldable pub member_text : (some member : Bool) → Name → List ℕ
member_text some member name = cond member (cond some (bytes "," ++ spelled name) (spelled name)) []

-- A label between the tabs that part it from the name and from the plus set.
unfoldable pub label_field : Bool → List ℕ
label_field label = bytes "\t" ++ label_text label ++ bytes "\t"

-- A set's text and the byte that ends its field.
unfoldable pub field_text : List Name → RoleSet → ℕ → List ℕ
field_text names set end = set_text names set ++ (end ∷ [])
