-- Worked typing texts over the desk's roles, computed from raw bytes: the desk's typing, and what is refused, with the refusal's number and line.
use Rattle.std.specs.Prelude.{ℕ, List, [], ◌∷◌, ◌++◌, map, ◌≡◌, refl}
use Rattle.roles.specs.declared.RoleSet.{RoleSet}
use Rattle.tables.specs.declared.Name.{Name}
use Rattle.text.specs.Forms.{bytes}
use Rattle.tables.specs.Names.{packed}
use Rattle.walking.specs.Texts.{Reading, read, refused}
use Rattle.worked.specs.Policies.{reading}
use Rattle.walking.specs.Turns.{in_turn}
use Rattle.typings.specs.TypingLines.{one_field, two_fields, line_of, well_formed, named, entry, judged, typing_line}
use Rattle.typings.specs.TypingText.{Typed, untyped, added, answered, judge_line, read_typing}

-- the desk's roles
abbrev desk : List Name
desk = packed (bytes "adm") ∷ packed (bytes "pay") ∷ packed (bytes "buy") ∷ []

-- the desk's typing: the header and the first two rows, and all of it
abbrev above : List ℕ
above = bytes "typing\t1\nadm\tH\t-\t-\npay\tL\t-\tbuy\n"

abbrev rows : List ℕ
rows = above ++ bytes "buy\tL\t-\tpay\n"

-- the low words of the minus sets where the text is read, and the refusal's number and line where it is not
abbrev summary : Reading Typed → List ℕ
summary (read s) = map (λ (minus : RoleSet). minus.low) s.minus
summary (refused number line) = number ∷ line ∷ []

-- each text, and what reading it gives
abbrev texts : List (List ℕ × List ℕ)
texts =
    (rows ++ bytes "end\n", 0 ∷ 4 ∷ 2 ∷ [])
    ∷ ([], 15 ∷ 1 ∷ [])
    ∷ (rows, 15 ∷ 5 ∷ [])
    ∷ (rows ++ bytes "end", 15 ∷ 5 ∷ [])
    ∷ (rows ++ bytes "end\nx", 15 ∷ 6 ∷ [])
    -- a trace, and edition 2
    ∷ (bytes "trace\t1\nend\n", 15 ∷ 1 ∷ [])
    ∷ (bytes "typing\t2\n", 15 ∷ 1 ∷ [])
    -- an `end` too early, and a line too many
    ∷ (above ++ bytes "end\n", 15 ∷ 4 ∷ [])
    ∷ (rows ++ bytes "buy\tL\t-\t-\n", 15 ∷ 5 ∷ [])
    -- a blank name, label and set
    ∷ (above ++ bytes "\tL\t-\t-\n", 15 ∷ 4 ∷ [])
    ∷ (above ++ bytes "buy\t\t-\t-\n", 15 ∷ 4 ∷ [])
    ∷ (above ++ bytes "buy\tL\t\t-\n", 15 ∷ 4 ∷ [])
    -- a label that is none, and a name that stands twice in a set
    ∷ (above ++ bytes "buy\tM\t-\t-\n", 15 ∷ 4 ∷ [])
    ∷ (above ++ bytes "buy\tL\t-\tpay,pay\n", 15 ∷ 4 ∷ [])
    -- another role's name at this place, a name that no role has, and one in a set
    ∷ (above ++ bytes "pay\tL\t-\t-\n", 16 ∷ 4 ∷ [])
    ∷ (above ++ bytes "out\tL\t-\t-\n", 16 ∷ 4 ∷ [])
    ∷ (above ++ bytes "buy\tL\tpay,out\t-\n", 16 ∷ 4 ∷ [])
    ∷ (above ++ bytes "buy\tL\t-\tout\n", 16 ∷ 4 ∷ [])
    -- malformed before names
    ∷ (above ++ bytes "out\tM\t-\t-\n", 15 ∷ 4 ∷ [])
    ∷ (above ++ bytes "buy\tL\tout,out\t-\n", 15 ∷ 4 ∷ [])
    ∷ []

pub worked_typings : map (λ (row : List ℕ × List ℕ). summary (read_typing desk row.0)) texts ≡ map (λ (row : List ℕ × List ℕ). row.1) texts
unfolding reading in_turn one_field two_fields line_of well_formed named entry judged typing_line untyped added answered judge_line read_typing
worked_typings = refl
