-- How a line of each kind of a policy is written.
use Rattle.std.specs.Prelude.{ℕ, List, [], ◌∷◌, ◌++◌}
use Rattle.text.specs.Forms.{bytes}
use Rattle.tables.specs.declared.Name.{Name}
use Rattle.tables.specs.Names.{name_at}
use Rattle.lines.specs.declared.Entry.{Entry}
use Rattle.writing.specs.Written.{spelled}
use Rattle.showing.specs.Fields.{field}
use Rattle.spelling.specs.TypingText.{set_text, label_text}

-- A line without its LF, over the policy's role and user names: its word, and its fields, each after a tab; sets in role order.
unfoldable pub line_text : (roles users : List Name) → Entry → List ℕ
line_text roles users Entry.Header = bytes "arbac" ++ field (bytes "1")
line_text roles users (Entry.Role name) = bytes "role" ++ field (spelled name)
line_text roles users (Entry.User name clearance) = bytes "user" ++ field (spelled name) ++ field (label_text clearance)
line_text roles users (Entry.Has user role) = bytes "has" ++ field (spelled (name_at users user)) ++ field (spelled (name_at roles role))
line_text roles users (Entry.Assign rule) =
    bytes "assign" ++ field (spelled (name_at roles rule.admin)) ++ field (set_text roles rule.positive) ++ field (set_text roles rule.negative) ++ field (spelled (name_at roles rule.target))
line_text roles users (Entry.Revoke rule) = bytes "revoke" ++ field (spelled (name_at roles rule.admin)) ++ field (spelled (name_at roles rule.target))
line_text roles users (Entry.Goal goal) = bytes "goal" ++ field (set_text roles goal)
line_text roles users Entry.End = bytes "end"

-- Lines one after another, each with its LF.
unfoldable pub lines_text : (roles users : List Name) → List Entry → List ℕ
lines_text roles users [] = []
lines_text roles users (entry ∷ entries) = line_text roles users entry ++ bytes "\n" ++ lines_text roles users entries
