-- Worked trace texts over two users, two assign rules and one revoke rule, computed from raw bytes: traces that are read, the names that are known
-- then, and what is refused, with the refusal's number and line.
use Rattle.std.specs.Prelude.{ℕ, cond, List, [], ◌∷◌, ◌++◌, map, ◌≡◌, refl, length}
use Rattle.tables.specs.declared.Name.{Name}
use Rattle.text.specs.Forms.{bytes, is_number, decimal, number_of}
use Rattle.tables.specs.Names.{packed}
use Rattle.steps.specs.declared.Step.{Step}
use Rattle.walking.specs.Texts.{Reading, read, refused}
use Rattle.worked.specs.Policies.{reading, named}
use Rattle.traces.specs.TraceLines.{two_fields, three_fields, four_fields, line_of, is_step, step_named, step_formed, step_known, step_within, step_said, name_brought, comes_to, judged, trace_line}
use Rattle.traces.specs.TraceText.{Traced, untraced, with_name, header_line, later_line, answered, judge_line, read_trace}

-- the desk's users
abbrev desk : List Name
desk = packed (bytes "ann") ∷ packed (bytes "bob") ∷ []

-- the header and a step
abbrev above : List ℕ
above = bytes "trace\t1\nassign\tann\t2\tbob\n"

-- a step by its kind, 1 for assign and 2 for revoke, its actor, its rule and its user, by places from 0; 3 for join, its place, and 1 for
-- H; 4 for leave and its user
abbrev numbers : Step → List ℕ
numbers (Step.Assign actor rule user) = 1 ∷ actor ∷ rule ∷ user ∷ []
numbers (Step.Revoke actor rule user) = 2 ∷ actor ∷ rule ∷ user ∷ []
numbers (Step.Join user clearance) = 3 ∷ user ∷ cond clearance 1 0 ∷ []
numbers (Step.Leave user) = 4 ∷ user ∷ []

-- the steps where the text is read, and the refusal's number and line where it is not
abbrev summary : Reading Traced → List (List ℕ)
summary (read s) = map numbers s.steps
summary (refused number line) = (number ∷ line ∷ []) ∷ []

-- a text, and what reading it gives
abbrev Row : Type 0
Row = List ℕ × List (List ℕ)

abbrev texts : List Row
texts =
    (above ++ bytes "revoke\tbob\t1\tann\nend\n", (1 ∷ 0 ∷ 1 ∷ 1 ∷ []) ∷ (2 ∷ 1 ∷ 0 ∷ 0 ∷ []) ∷ [])
    ∷ (bytes "trace\t1\nend\n", [])
    ∷ ([], (15 ∷ 1 ∷ []) ∷ [])
    ∷ (above, (15 ∷ 3 ∷ []) ∷ [])
    ∷ (above ++ bytes "end", (15 ∷ 3 ∷ []) ∷ [])
    ∷ (above ++ bytes "end\nx", (15 ∷ 4 ∷ []) ∷ [])
    -- edition 2, a step in the header's place, and the header again
    ∷ (bytes "trace\t2\n", (15 ∷ 1 ∷ []) ∷ [])
    ∷ (bytes "assign\tann\t1\tbob\n", (15 ∷ 1 ∷ []) ∷ [])
    ∷ (above ++ bytes "trace\t1\n", (15 ∷ 3 ∷ []) ∷ [])
    -- a blank actor, number and user
    ∷ (above ++ bytes "assign\t\t1\tbob\n", (15 ∷ 3 ∷ []) ∷ [])
    ∷ (above ++ bytes "assign\tann\t\tbob\n", (15 ∷ 3 ∷ []) ∷ [])
    ∷ (above ++ bytes "assign\tann\t1\t\n", (15 ∷ 3 ∷ []) ∷ [])
    -- a field too few and one too many, and a word that is no step
    ∷ (above ++ bytes "assign\tann\t1\n", (15 ∷ 3 ∷ []) ∷ [])
    ∷ (above ++ bytes "assign\tann\t1\tbob\t\n", (15 ∷ 3 ∷ []) ∷ [])
    ∷ (above ++ bytes "give\tann\t1\tbob\n", (15 ∷ 3 ∷ []) ∷ [])
    -- the numbers 0 and 01, four digits, and no digit
    ∷ (above ++ bytes "assign\tann\t0\tbob\n", (15 ∷ 3 ∷ []) ∷ [])
    ∷ (above ++ bytes "assign\tann\t01\tbob\n", (15 ∷ 3 ∷ []) ∷ [])
    ∷ (above ++ bytes "assign\tann\t1000\tbob\n", (15 ∷ 3 ∷ []) ∷ [])
    ∷ (above ++ bytes "assign\tann\tx\tbob\n", (15 ∷ 3 ∷ []) ∷ [])
    -- an actor and a user that are not declared, and rule numbers above the count of their kind
    ∷ (above ++ bytes "assign\tout\t1\tbob\n", (16 ∷ 3 ∷ []) ∷ [])
    ∷ (above ++ bytes "assign\tann\t1\tout\n", (16 ∷ 3 ∷ []) ∷ [])
    ∷ (above ++ bytes "assign\tann\t3\tbob\n", (16 ∷ 3 ∷ []) ∷ [])
    ∷ (above ++ bytes "revoke\tann\t2\tbob\n", (16 ∷ 3 ∷ []) ∷ [])
    ∷ (above ++ bytes "revoke\tann\t999\tbob\n", (16 ∷ 3 ∷ []) ∷ [])
    -- malformed before names
    ∷ (above ++ bytes "assign\tout\t0\tbob\n", (15 ∷ 3 ∷ []) ∷ [])
    ∷ []

-- opens every definition of this layer
unfoldable pub tracing : Unit {0}
unfolding reading is_number decimal number_of two_fields three_fields four_fields line_of is_step step_named step_formed step_known step_within step_said name_brought comes_to judged trace_line untraced with_name header_line later_line answered judge_line read_trace
tracing = tt

pub worked_traces : map (λ (row : Row). summary (read_trace 2 1 desk row.0)) texts ≡ map (λ (row : Row). row.1) texts
unfolding tracing
worked_traces = refl

-- ---- joins and leaves

abbrev joins : List Row
joins =
    -- a joiner has the next place, acts, is given a role and leaves; the names of both clearances
    (bytes "trace\t1\njoin\teve\tH\njoin\tdan\tL\nassign\teve\t1\tdan\nleave\teve\nend\n", (3 ∷ 2 ∷ 1 ∷ []) ∷ (3 ∷ 3 ∷ 0 ∷ []) ∷ (1 ∷ 2 ∷ 0 ∷ 3 ∷ []) ∷ (4 ∷ 2 ∷ []) ∷ [])
    -- a listed name, a joined name and one who left join again: each is well read, and no name more
    ∷ (bytes "trace\t1\njoin\tbob\tL\njoin\teve\tL\njoin\teve\tH\nleave\teve\njoin\teve\tL\njoin\tdan\tL\nend\n", (3 ∷ 1 ∷ 0 ∷ []) ∷ (3 ∷ 2 ∷ 0 ∷ []) ∷ (3 ∷ 2 ∷ 1 ∷ []) ∷ (4 ∷ 2 ∷ []) ∷ (3 ∷ 2 ∷ 0 ∷ []) ∷ (3 ∷ 3 ∷ 0 ∷ []) ∷ [])
    -- blank fields, a clearance that is none, a name without a form, fields too few and too many
    ∷ (above ++ bytes "join\t\tL\n", (15 ∷ 3 ∷ []) ∷ [])
    ∷ (above ++ bytes "join\teve\t\n", (15 ∷ 3 ∷ []) ∷ [])
    ∷ (above ++ bytes "join\teve\tM\n", (15 ∷ 3 ∷ []) ∷ [])
    ∷ (above ++ bytes "join\te-e\tL\n", (15 ∷ 3 ∷ []) ∷ [])
    ∷ (above ++ bytes "join\teve\n", (15 ∷ 3 ∷ []) ∷ [])
    ∷ (above ++ bytes "join\teve\tL\tL\n", (15 ∷ 3 ∷ []) ∷ [])
    ∷ (above ++ bytes "leave\n", (15 ∷ 3 ∷ []) ∷ [])
    ∷ (above ++ bytes "leave\t\n", (15 ∷ 3 ∷ []) ∷ [])
    ∷ (above ++ bytes "leave\tbob\tL\n", (15 ∷ 3 ∷ []) ∷ [])
    ∷ (bytes "join\teve\tL\n", (15 ∷ 1 ∷ []) ∷ [])
    -- a name that is not known leaves, and one is used on the line above its join
    ∷ (above ++ bytes "leave\tout\n", (16 ∷ 3 ∷ []) ∷ [])
    ∷ (above ++ bytes "assign\tann\t1\teve\njoin\teve\tL\nend\n", (16 ∷ 3 ∷ []) ∷ [])
    ∷ []

pub worked_joins : map (λ (row : Row). summary (read_trace 2 1 desk row.0)) joins ≡ map (λ (row : Row). row.1) joins
unfolding tracing
worked_joins = refl

-- ---- the limit of 64 names

-- so many join, each with a name of its own
abbrev joining : ℕ → List ℕ
joining n = bytes "trace\t1\n" ++ named (bytes "join\t") (bytes "\tL\n") n

-- how many steps there are and how many names are known, or the refusal
abbrev counted : Reading Traced → List ℕ
counted (read s) = length s.steps ∷ length s.names ∷ []
counted (refused number line) = number ∷ line ∷ []

abbrev limits : List (List ℕ × List ℕ)
limits =
    -- the 64th name is read, and the 65th is not
    (joining 62 ++ bytes "end\n", 62 ∷ 64 ∷ [])
    ∷ (joining 63, 21 ∷ 64 ∷ [])
    -- a name that is known is no name more: a listed one, a joined one and one who left
    ∷ (joining 62 ++ bytes "leave\taa\njoin\tann\tL\njoin\tab\tL\njoin\taa\tL\nend\n", 66 ∷ 64 ∷ [])
    -- malformed and names before the limit
    ∷ (joining 62 ++ bytes "join\tout\tM\n", 15 ∷ 64 ∷ [])
    ∷ (joining 62 ++ bytes "leave\tout\n", 16 ∷ 64 ∷ [])
    ∷ []

pub worked_names : map (λ (row : List ℕ × List ℕ). counted (read_trace 2 1 desk row.0)) limits ≡ map (λ (row : List ℕ × List ℕ). row.1) limits
unfolding tracing
worked_names = refl
