-- How long a set's text, a line and a typing's text are at most, and what of each the whole has room for.
use Rattle.std.specs.Prelude.{ℕ, ◌+◌, ◌*◌, ◌≤◌, Bool, true, false, List, [], ◌∷◌, ◌≡◌, refl, length, drop}
use Rattle.std.proofs.Common.{sym, ap, ◌∙◌, length-append, arith}
use Rattle.roles.specs.declared.RoleSet.{RoleSet}
use Rattle.roles.specs.Sets.{has_role}
use Rattle.model.specs.declared.Typing.{Typing as Table}
use Rattle.model.specs.Typing.{Typing}
use Rattle.model.specs.Meaning.{meaning}
use Rattle.tables.specs.declared.Name.{Name}
use Rattle.text.specs.Forms.{bytes}
use Rattle.tables.specs.Names.{row_of, rows}
use Rattle.writing.specs.Written.{spelled}
use Rattle.writing.specs.Spelling.{spelled_length}
use Rattle.spelling.specs.TypingText.{label_text, set_text, row_text, typing_text}
use Rattle.spelling.specs.Growth.{at_most, part_within}
use Rattle.spelling.specs.TypingPieces.{member_text, label_field, field_text}
use Rattle.spelling.proofs.TypingSteps.{some_below, set_below, member_at, set_start, set_grows, set_some, set_none, row_text_lem, lines_below, line_at, lines_start, lines_grow, text_end}

-- ---- a set's text

-- a name has at most 32 bytes, and a comma may stand before it
member_most : (some member : Bool) (name : Name) → length (member_text some member name) ≤ 33
unfolding member_text
member_most some false name = omega arith
member_most true true name = omega (arith, spelled_length name)
member_most false true name = omega (arith, spelled_length name)

-- so the roles below a role take at most 33 bytes each
pub below_most : (table : List ℕ) (set : RoleSet) (role : ℕ) → length (set_below table set role) ≤ 33 * role
unfolding member_at
below_most table set role =
    omega
    (arith, ap length (set_start table set), at_most (set_grows table set) 33 (λ k. member_most (some_below table set k) (has_role set k) (row_of (drop (4 * k) table))) role)

-- a set's text is that of all its roles, or one byte
set_cases : (table : List ℕ) (set : RoleSet) (count : ℕ)
    → (length (set_below table set count) ≤ length (set_text (rows count table) set)) × (length (set_text (rows count table) set) ≤ length (set_below table set count) + 1)
set_cases table set count = go (some_below table set count) refl
  where
    go : (some : Bool) → some ≡ some_below table set count
        → (length (set_below table set count) ≤ length (set_text (rows count table) set)) × (length (set_text (rows count table) set) ≤ length (set_below table set count) + 1)
    go true told = omega (arith, ap length (set_some table set count count (omega arith) (omega arith) told refl))
    go false told =
        let end = set_none table set count count (omega arith) (omega arith) told refl in
        omega (arith, ap length end.0, ap length end.1)

-- where a set's text has room, so has that of all its roles
pub below_within : (table : List ℕ) (set : RoleSet) (count : ℕ) {size : ℕ} → length (set_text (rows count table) set) ≤ size → length (set_below table set count) ≤ size
below_within table set count fits = omega (arith, set_cases table set count)

-- and a set's text is short
pub set_most : (table : List ℕ) (set : RoleSet) (count : ℕ) → length (set_text (rows count table) set) ≤ 33 * count + 1
set_most table set count = omega (arith, set_cases table set count, below_most table set count)

-- ---- a line

-- a label and its two tabs
label_length : (label : Bool) → length (label_field label) ≡ 3
unfolding label_field label_text
label_length true = refl
label_length false = refl

-- a set's text and the byte past it
pub field_length : (names : List Name) (set : RoleSet) (end : ℕ) → length (field_text names set end) ≡ length (set_text names set) + 1
unfolding field_text
field_length names set end = length-append (set_text names set) (end ∷ [])

-- the name and the two sets, and five bytes: the label, three tabs and the end of the line
pub row_length : (names : List Name) (name : Name) (label : Bool) (plus minus : RoleSet)
    → length (row_text names name label plus minus) ≡ length (spelled name) + length (set_text names plus) + length (set_text names minus) + 5
row_length names name label plus minus =
    rw (← row_text_lem names name label plus minus) (simp length-append (omega (arith, label_length label, field_length names plus 9, field_length names minus 10)))

-- where a line has room, so have its pieces
pub row_pieces : (names : List Name) (name : Name) {named : Name} (label : Bool) (plus minus : RoleSet) {size : ℕ} → named ≡ name → length (row_text names name label plus minus) ≤ size
    → length (spelled named) + length (label_field label) + length (field_text names plus 9) + length (field_text names minus 10) ≤ size
row_pieces names name label plus minus same fits =
    rw same (omega (arith, row_length names name label plus minus, label_length label, field_length names plus 9, field_length names minus 10))

-- a line of a policy, which has at most 128 roles
row_most : (table : List ℕ) (count : ℕ) (name : Name) (label : Bool) (plus minus : RoleSet) → count ≤ 128 → length (row_text (rows count table) name label plus minus) ≤ 8487
row_most table count name label plus minus few =
    omega (arith, row_length (rows count table) name label plus minus, spelled_length name, set_most table plus count, set_most table minus count)

-- ---- the whole text

-- the header has nine bytes
pub lines_most : (count : ℕ) (table : List ℕ) (Γ : Typing) (role : ℕ) → count ≤ 128 → length (lines_below count table Γ role) ≤ 9 + 8487 * role
unfolding line_at
lines_most count table Γ role few =
    omega (
      arith,
      ap length (lines_start count table Γ),
      at_most (lines_grow count table Γ) 8487 (λ k. row_most table count (row_of (drop (4 * k) table)) (Γ.label k) (Γ.plus k) (Γ.minus k) few) role,
    )

-- `end` and the end of its line are four bytes more
pub text_length : (count : ℕ) (table : List ℕ) (t : Table) (role : ℕ) → role ≤ count → count ≤ role → length (lines_below count table (meaning t) role) + 4 ≡ length (typing_text (rows count table) t)
text_length count table t role most least = sym (length-append (lines_below count table (meaning t) role) (bytes "end\n")) ∙ ap length (text_end count table t role most least)

-- where the whole text has room, so have the lines of any of its roles, and `end`
pub lines_within : (count : ℕ) (table : List ℕ) (t : Table) (role : ℕ) {size : ℕ} → role ≤ count → length (typing_text (rows count table) t) ≤ size → length (lines_below count table (meaning t) role) + 4 ≤ size
lines_within count table t role below fits =
    omega (arith, text_length count table t count (omega arith) (omega arith), part_within (lines_grow count table (meaning t)) role count below)
