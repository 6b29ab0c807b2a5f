-- How a typing's text grows as it is written: a set's text role by role, the whole text line by line.
use Rattle.std.specs.Prelude.{ℕ, zero, suc, ◌+◌, ◌-◌, ◌*◌, ◌≤◌, ◌<◌, Bool, true, false, cond, ◌||◌, List, [], ◌∷◌, ◌++◌, ◌≡◌, refl, length, drop}
use Rattle.std.proofs.lemmas.Bool.{false≢true}
use Rattle.std.proofs.Common.{append_assoc, append-nil, sym, ap, ◌∙◌, drop-drop, add-zero, zero-add, add-one, arith}
use Rattle.roles.specs.declared.RoleSet.{RoleSet}
use Rattle.roles.specs.Sets.{has_role}
use Rattle.model.specs.declared.Typing.{Typing as Table}
use Rattle.model.specs.Typing.{Typing}
use Rattle.model.specs.Meaning.{meaning}
use Rattle.tables.specs.declared.Name.{Name}
use Rattle.text.specs.Forms.{bytes}
use Rattle.tables.specs.Names.{row_of, rows}
use Rattle.tables.specs.NameLaws.{rows_length}
use Rattle.writing.specs.Written.{spelled}
use Rattle.spelling.specs.TypingText.{names_from, joined_after, joined, set_text, row_text, rows_text, typing_text}
use Rattle.spelling.specs.TypingPieces.{member_text, label_field, field_text}
use Rattle.spelling.specs.Growth.{Grows}

-- the names of a table, one more
rows_next : (role : ℕ) (table : List ℕ) → rows (suc role) table ≡ rows role table ++ (row_of (drop (4 * role) table) ∷ [])
unfolding rows
rows_next zero table = refl
rows_next (suc role) table =
    let on : 4 + 4 * role ≡ 4 * suc role = omega arith in
    ap (λ (names : List Name). row_of table ∷ names) (rows_next role (drop 4 table) ∙ rw (drop-drop (4 * role) 4 table, on))

-- ---- a role in a set's text

-- the first member, and a later one
pub member_first : {some member : Bool} (name : Name) → member ≡ true → some ≡ false → member_text some member name ≡ spelled name
unfolding member_text
member_first name is first = rw (is, first)

pub member_later : {some member : Bool} (name : Name) → member ≡ true → some ≡ true → member_text some member name ≡ bytes "," ++ spelled name
unfolding member_text
member_later name is later = rw (is, later)

-- ---- a set's text, role by role

-- whether there is a name
any_name : List (List ℕ) → Bool
any_name [] = false
any_name (name ∷ more) = true

-- names joined by commas; none are nothing
listed : List (List ℕ) → List ℕ
listed [] = []
listed (name ∷ more) = joined_after name more

-- the names of a set's roles below a role
names_below : List ℕ → RoleSet → ℕ → List (List ℕ)
names_below table set role = names_from 0 set (rows role table)

-- Whether a set has a role below a role.
pub some_below : List ℕ → RoleSet → ℕ → Bool
some_below table set role = any_name (names_below table set role)

-- The text of a set's roles below a role.
pub set_below : List ℕ → RoleSet → ℕ → List ℕ
set_below table set role = listed (names_below table set role)

-- What the role itself adds.
unfoldable pub member_at : List ℕ → RoleSet → ℕ → List ℕ
member_at table set role = member_text (some_below table set role) (has_role set role) (row_of (drop (4 * role) table))

-- as it is written, from what is found on the way
pub member_at_lem : (table : List ℕ) (set : RoleSet) (role : ℕ) {some member : Bool} {name : Name} → some ≡ some_below table set role → member ≡ has_role set role → name ≡ row_of (drop (4 * role) table)
    → member_text some member name ≡ member_at table set role
unfolding member_at
member_at_lem table set role told has named = rw (told, has, named)

-- one name more, or none
names_more : (role : ℕ) (set : RoleSet) (names : List Name) (name : Name)
    → names_from role set (names ++ (name ∷ [])) ≡ names_from role set names ++ cond (has_role set (role + length names)) (spelled name ∷ []) []
unfolding names_from
names_more role set [] name = rw (add-zero role)
names_more role set (first ∷ names) name =
    let on : suc role + length names ≡ role + suc (length names) = omega arith in
    go (has_role set role) (names_more (suc role) set names name ∙ rw on)
  where
    go : (b : Bool)
        → names_from (suc role) set (names ++ (name ∷ [])) ≡ names_from (suc role) set names ++ cond (has_role set (role + suc (length names))) (spelled name ∷ []) []
        → cond b (spelled first ∷ names_from (suc role) set (names ++ (name ∷ []))) (names_from (suc role) set (names ++ (name ∷ [])))
        ≡ cond b (spelled first ∷ names_from (suc role) set names) (names_from (suc role) set names) ++ cond (has_role set (role + suc (length names))) (spelled name ∷ []) []
    go true below = ap (λ (l : List (List ℕ)). spelled first ∷ l) below
    go false below = below

-- the names below the next role
names-next : (table : List ℕ) (set : RoleSet) (role : ℕ)
    → names_below table set (role + 1) ≡ names_below table set role ++ cond (has_role set role) (spelled (row_of (drop (4 * role) table)) ∷ []) []
unfolding names_below
names-next table set role = rw (add-one role, rows_next role table, names_more 0 set (rows role table) (row_of (drop (4 * role) table)), rows_length role table, zero-add role)

-- a name joined to others
joined_more : (first : List ℕ) (names : List (List ℕ)) (name : List ℕ) → joined_after first (names ++ (name ∷ [])) ≡ joined_after first names ++ (bytes "," ++ name)
unfolding joined_after
joined_more first [] name = append_assoc first (bytes ",") name
joined_more first (next ∷ names) name =
    ap (λ (l : List ℕ). first ++ bytes "," ++ l) (joined_more next names name) ∙ sym (append_assoc (first ++ bytes ",") (joined_after next names) (bytes "," ++ name))

-- so the names joined have what the role adds, and there is one if there was or the role is a member
listed_more : (names : List (List ℕ)) (member : Bool) (name : Name)
    → listed names ++ member_text (any_name names) member name ≡ listed (names ++ cond member (spelled name ∷ []) [])
unfolding listed any_name member_text joined_after
listed_more names false name = rw (append-nil names, append-nil (listed names))
listed_more [] true name = refl
listed_more (first ∷ names) true name = sym (joined_more first names (spelled name))

any_more : (names : List (List ℕ)) (member : Bool) (name : Name) → (any_name names || member) ≡ any_name (names ++ cond member (spelled name ∷ []) [])
unfolding any_name
any_more [] true name = refl
any_more [] false name = refl
any_more (first ∷ names) member name = refl

-- before the first role
pub some_start : (table : List ℕ) (set : RoleSet) → false ≡ some_below table set 0
unfolding some_below names_below names_from rows any_name
some_start table set = refl

pub set_start : (table : List ℕ) (set : RoleSet) → set_below table set 0 ≡ []
unfolding set_below names_below names_from rows listed
set_start table set = refl

-- past one role more
pub some_next : (table : List ℕ) (set : RoleSet) (role : ℕ) {some member : Bool} → some ≡ some_below table set role → member ≡ has_role set role → (some || member) ≡ some_below table set (role + 1)
unfolding some_below
some_next table set role told has = rw (told, has, names-next table set role) (any_more (names_below table set role) (has_role set role) (row_of (drop (4 * role) table)))

pub set_grows : (table : List ℕ) (set : RoleSet) → Grows (set_below table set) (member_at table set)
unfolding set_below member_at some_below
set_grows table set = record {
  next = λ role. rw (names-next table set role) (listed_more (names_below table set role) (has_role set role) (row_of (drop (4 * role) table)));
}

-- past roles that are no members
names_same : (table : List ℕ) (set : RoleSet) (role more : ℕ) → ((k : ℕ) → role ≤ k → k < role + more → has_role set k ≡ false) → names_below table set role ≡ names_below table set (role + more)
names_same table set role zero none = rw (add-zero role)
names_same table set role (suc more) none =
    let on : role + suc more ≡ role + more + 1 = omega arith in
    names_same table set role more (λ k past below. none k past (omega (arith, below)))
    ∙ sym (ap (names_below table set) on ∙ names-next table set (role + more) ∙ ap (λ (b : Bool). names_below table set (role + more) ++ cond b (spelled (row_of (drop (4 * (role + more)) table)) ∷ []) []) (none (role + more) (omega arith) (omega arith)) ∙ append-nil (names_below table set (role + more)))

up_to_same : (table : List ℕ) (set : RoleSet) (role to : ℕ) → role ≤ to → ((k : ℕ) → role ≤ k → k < to → has_role set k ≡ false) → names_below table set role ≡ names_below table set to
up_to_same table set role to up none =
    let whole : role + (to - role) ≡ to = omega arith in
    names_same table set role (to - role) (λ k past below. none k past (omega (arith, below, whole))) ∙ ap (names_below table set) whole

pub set_same : (table : List ℕ) (set : RoleSet) (role to : ℕ) → role ≤ to → ((k : ℕ) → role ≤ k → k < to → has_role set k ≡ false) → set_below table set role ≡ set_below table set to
unfolding set_below
set_same table set role to up none = ap listed (up_to_same table set role to up none)

pub some_same : (table : List ℕ) (set : RoleSet) (role to : ℕ) → role ≤ to → ((k : ℕ) → role ≤ k → k < to → has_role set k ≡ false) → some_below table set role ≡ some_below table set to
unfolding some_below
some_same table set role to up none = ap any_name (up_to_same table set role to up none)

-- past the last role: the names joined, and `-` where there is none
joined_some : (names : List (List ℕ)) → any_name names ≡ true → listed names ≡ joined names
unfolding joined any_name listed
joined_some [] some = absurd (false≢true some)
joined_some (first ∷ more) some = refl

joined_none : (names : List (List ℕ)) → any_name names ≡ false → (listed names ≡ []) × (bytes "-" ≡ joined names)
unfolding joined any_name listed
joined_none [] none = (refl, refl)
joined_none (first ∷ more) none = absurd (false≢true (sym none))

pub set_some : (table : List ℕ) (set : RoleSet) (count role : ℕ) {some : Bool} → role ≤ count → count ≤ role → some ≡ some_below table set role → some ≡ true
    → set_below table set role ≡ set_text (rows count table) set
unfolding set_text set_below some_below names_below
set_some table set count role most least told is =
    let last : role ≡ count = omega arith in
    joined_some (names_below table set role) (sym told ∙ is) ∙ rw last

pub set_none : (table : List ℕ) (set : RoleSet) (count role : ℕ) {some : Bool} → role ≤ count → count ≤ role → some ≡ some_below table set role → some ≡ false
    → (set_below table set role ≡ []) × (bytes "-" ≡ set_text (rows count table) set)
unfolding set_text set_below some_below names_below
set_none table set count role most least told is =
    let last : role ≡ count = omega arith in
    rw (← last) (joined_none (names_below table set role) (sym told ∙ is))

-- ---- a line

-- A line in the pieces in which it is written: a tab is 9, the end of a line 10.
pub row_text_lem : (names : List Name) (name : Name) (label : Bool) (plus minus : RoleSet)
    → spelled name ++ label_field label ++ field_text names plus 9 ++ field_text names minus 10 ≡ row_text names name label plus minus
unfolding row_text label_field field_text
row_text_lem names name label plus minus = simp append_assoc

-- ---- the whole text, line by line

-- The header and the lines of the roles below a role.
pub lines_below : ℕ → List ℕ → Typing → ℕ → List ℕ
lines_below count table Γ role = bytes "typing\t1\n" ++ rows_text (rows count table) Γ 0 (rows role table)

-- The role's own line.
unfoldable pub line_at : ℕ → List ℕ → Typing → ℕ → List ℕ
line_at count table Γ role = row_text (rows count table) (row_of (drop (4 * role) table)) (Γ.label role) (Γ.plus role) (Γ.minus role)

-- before the first line
pub lines_start : (count : ℕ) (table : List ℕ) (Γ : Typing) → bytes "typing\t1\n" ≡ lines_below count table Γ 0
unfolding lines_below rows_text rows
lines_start count table Γ = refl

-- one line more
lines_more : (all : List Name) (Γ : Typing) (role : ℕ) (names : List Name) (name : Name)
    → rows_text all Γ role (names ++ (name ∷ [])) ≡ rows_text all Γ role names ++ row_text all name (Γ.label (role + length names)) (Γ.plus (role + length names)) (Γ.minus (role + length names))
unfolding rows_text
lines_more all Γ role [] name = rw (add-zero role) (append-nil (row_text all name (Γ.label role) (Γ.plus role) (Γ.minus role)))
lines_more all Γ role (first ∷ names) name =
    let on : suc role + length names ≡ role + suc (length names) = omega arith in
    let line = row_text all first (Γ.label role) (Γ.plus role) (Γ.minus role) in
    ap (λ (l : List ℕ). line ++ l) (lines_more all Γ (suc role) names name ∙ rw on) ∙ sym (append_assoc line (rows_text all Γ (suc role) names) _)

pub lines_grow : (count : ℕ) (table : List ℕ) (Γ : Typing) → Grows (lines_below count table Γ) (line_at count table Γ)
unfolding lines_below line_at
lines_grow count table Γ = record {
  next = λ role. rw (add-one role, rows_next role table, lines_more (rows count table) Γ 0 (rows role table) (row_of (drop (4 * role) table)), rows_length role table, zero-add role)
      (append_assoc (bytes "typing\t1\n") (rows_text (rows count table) Γ 0 (rows role table)) (line_at count table Γ role));
}

-- past the last line, `end`
pub text_end : (count : ℕ) (table : List ℕ) (t : Table) (role : ℕ) → role ≤ count → count ≤ role → lines_below count table (meaning t) role ++ bytes "end\n" ≡ typing_text (rows count table) t
unfolding typing_text lines_below
text_end count table t role most least =
    let last : role ≡ count = omega arith in
    rw last
