-- Laws of the lines of a block: how they grow element by element, and what stands in a ledger for each element.
use Rattle.std.specs.Prelude.{ℕ, zero, suc, ◌+◌, ◌≤◌, ◌<◌, Bool, true, false, cond, List, [], ◌∷◌, ◌++◌, ◌≡◌, refl}
use Rattle.std.proofs.Common.{append_assoc, append-nil, ◌∙◌, length-append, add-zero, add-one}
use Rattle.std.proofs.Math.Path.{sym, ap}
use Rattle.std.proofs.Math.ListN.{length}
use native.Mathlib.Omega.{arith}
use Rattle.roles.specs.declared.RoleSet.{RoleSet}
use Rattle.roles.specs.Sets.{has_role, empty_set}
use Rattle.model.specs.declared.Assign.{Assign}
use Rattle.model.specs.declared.Revoke.{Revoke}
use Rattle.model.specs.declared.Person.{Person}
use Rattle.model.specs.Policy.{no_assign, no_revoke, person, nobody}
use Rattle.text.specs.Forms.{bytes}
use Rattle.tables.specs.declared.Name.{Name}
use Rattle.tables.specs.Names.{packed, name_at}
use Rattle.ledgers.specs.Parts.{Part, row_at, rows_in}
use Rattle.ledgers.specs.PartLaws.{rows_length, rows_at}
use Rattle.ledgers.specs.Ledger.{role_names, user_names, people, assign_rules, revoke_rules, goal_sets}
use Rattle.lines.specs.declared.Counts.{Counts}
use Rattle.lines.specs.declared.Entry.{Entry}
use Rattle.reading.specs.Ledger.{ledger_says}
use Rattle.spelling.specs.Growth.{Grows}
use Rattle.drafting.specs.declared.Block.{Block}
use Rattle.inscribing.specs.LineText.{line_text, lines_text}
use Rattle.drafting.specs.PolicyText.{held_from, block_size, element, first_of, block_of, entries_of, policy_text}
use Rattle.inscribing.specs.LineLaws.{lines_in, lines_none}

-- ---- lines that grow

-- the lines of entries and of others past them
both_text : (roles users : List Name) (one two : List Entry) → lines_text roles users one ++ lines_text roles users two ≡ lines_text roles users (one ++ two)
unfolding lines_text
both_text roles users [] two = refl
both_text roles users (entry ∷ one) two =
    let line = line_text roles users entry ++ bytes "\n" in
    append_assoc line (lines_text roles users one) (lines_text roles users two) ∙ ap (λ (l : List ℕ). line ++ l) (both_text roles users one two)

module _ (words : List ℕ) (c : Counts) where
  pub lines_both : (one two : List Entry) → lines_in words c one ++ lines_in words c two ≡ lines_in words c (one ++ two)
  unfolding lines_in
  lines_both one two = both_text (ledger_says words c).roles (ledger_says words c).users one two

  -- so the lines grow as the entries do
  entries_grow : (entries more : ℕ → List Entry) → ((k : ℕ) → entries (suc k) ≡ entries k ++ more k) → Grows (λ k. lines_in words c (entries k)) (λ k. lines_in words c (more k))
  entries_grow entries more each = record { next = λ k. rw (add-one k, each k) (lines_both (entries k) (more k)) }

-- ---- the has lines of a user

-- The entry of a user and a role, if the user holds the role.
unfoldable pub held_entry : (user role : ℕ) → Bool → List Entry
held_entry user role holds = cond holds (Entry.Has user role ∷ []) []

pub held_entry_lem : (user role : ℕ) {holds : Bool} → holds ≡ true → Entry.Has user role ∷ [] ≡ held_entry user role holds
unfolding held_entry
held_entry_lem user role is = rw is

pub held_none : (user role : ℕ) {holds : Bool} → holds ≡ false → [] ≡ held_entry user role holds
unfolding held_entry
held_none user role is = rw is

-- The entries of a user's roles below a role.
unfoldable pub held_below : ℕ → RoleSet → ℕ → List Entry
held_below user held zero = []
held_below user held (suc role) = held_below user held role ++ held_entry user role (has_role held role)

held_on : (user role : ℕ) (holds : Bool) (rest : List Entry) → cond holds (Entry.Has user role ∷ rest) rest ≡ held_entry user role holds ++ rest
unfolding held_entry
held_on user role true rest = refl
held_on user role false rest = refl

-- those from a role on stand past them
held_past : (user role : ℕ) (held : RoleSet) (names : List Name) → held_below user held role ++ held_from user role held names ≡ held_below user held (role + length names)
unfolding held_from held_below
held_past user role held [] = append-nil (held_below user held role) ∙ ap (held_below user held) (sym (add-zero role))
held_past user role held (name ∷ names) =
    let on : suc role + length names ≡ role + suc (length names) = omega arith in
    let rest = held_from user (suc role) held names in
    ap (λ (l : List Entry). held_below user held role ++ l) (held_on user role (has_role held role) rest)
    ∙ sym (append_assoc (held_below user held role) (held_entry user role (has_role held role)) rest)
    ∙ held_past user (suc role) held names ∙ ap (held_below user held) on

module _ (words : List ℕ) (c : Counts) (user : ℕ) where
  pub held_start : (held : RoleSet) → [] ≡ lines_in words c (held_below user held 0)
  unfolding held_below
  held_start held = lines_none words c

  pub held_grows : (held : RoleSet) → Grows (λ k. lines_in words c (held_below user held k)) (λ k. lines_in words c (held_entry user k (has_role held k)))
  unfolding held_below
  held_grows held = entries_grow words c (held_below user held) (λ k. held_entry user k (has_role held k)) (λ k. refl)

  -- past the last role they are the element of the block
  pub held_all : {held : RoleSet} {role : ℕ} → role ≤ c.roles → c.roles ≤ role → user < c.users → held ≡ (row_at people words user).roles → held_below user held role ≡ element (ledger_says words c) Block.Has user
  unfolding element ledger_says person held_below
  held_all {held} {role} most least inside said =
      let names = rows_in role_names words c.roles in
      let all : role ≡ 0 + length names = omega (arith, rows_length role_names words c.roles) in
      let here : held ≡ (person (rows_in people words c.users) user).roles = said ∙ ap (λ (p : Person). p.roles) (sym (rows_at people words c.users user nobody inside)) in
      ap (held_below user held) all ∙ sym (held_past user 0 held names) ∙ ap (λ (h : RoleSet). held_from user 0 h names) here

-- ---- the element at a place

-- as many rows as the count says
below : {A : Type 0} (part : Part A) (words : List ℕ) (count : ℕ) {place size : ℕ} → size ≡ length (rows_in part words count) → place < size → place < count
below part words count size inside = omega (arith, rows_length part words count)

module _ (words : List ℕ) (c : Counts) {block : Block} (place : ℕ) where
  -- its place is below the count of its kind
  pub role_below : block ≡ Block.Roles → place < block_size (ledger_says words c) block → place < c.roles
  unfolding block_size ledger_says
  role_below is = below role_names words c.roles (ap (block_size (ledger_says words c)) is)

  pub user_below : block ≡ Block.Users → place < block_size (ledger_says words c) block → place < c.users
  unfolding block_size ledger_says
  user_below is = below user_names words c.users (ap (block_size (ledger_says words c)) is)

  pub holder_below : block ≡ Block.Has → place < block_size (ledger_says words c) block → place < c.users
  unfolding block_size ledger_says
  holder_below is = below user_names words c.users (ap (block_size (ledger_says words c)) is)

  pub assign_below : block ≡ Block.Assigns → place < block_size (ledger_says words c) block → place < c.assigns
  unfolding block_size ledger_says
  assign_below is = below assign_rules words c.assigns (ap (block_size (ledger_says words c)) is)

  pub revoke_below : block ≡ Block.Revokes → place < block_size (ledger_says words c) block → place < c.revokes
  unfolding block_size ledger_says
  revoke_below is = below revoke_rules words c.revokes (ap (block_size (ledger_says words c)) is)

  pub goal_below : block ≡ Block.Goals → place < block_size (ledger_says words c) block → place < c.goals
  unfolding block_size ledger_says
  goal_below is = below goal_sets words c.goals (ap (block_size (ledger_says words c)) is)

  -- and its entry is that of what stands there
  pub role_element : {name : Name} → block ≡ Block.Roles → place < block_size (ledger_says words c) block → name ≡ row_at role_names words place → Entry.Role name ∷ [] ≡ element (ledger_says words c) block place
  unfolding element ledger_says name_at
  role_element is inside named = rw (is, named, rows_at role_names words c.roles place (packed []) (role_below is inside))

  pub user_element : {name : Name} {user : Person} → block ≡ Block.Users → place < block_size (ledger_says words c) block → name ≡ row_at user_names words place → user ≡ row_at people words place
      → Entry.User name user.clearance ∷ [] ≡ element (ledger_says words c) block place
  unfolding element ledger_says person name_at
  user_element is inside named stands = rw (is, named, stands, rows_at user_names words c.users place (packed []) (user_below is inside), rows_at people words c.users place nobody (user_below is inside))

  pub has_element : block ≡ Block.Has → element (ledger_says words c) Block.Has place ≡ element (ledger_says words c) block place
  has_element is = rw is

  pub assign_element : {rule : Assign} → block ≡ Block.Assigns → place < block_size (ledger_says words c) block → rule ≡ row_at assign_rules words place → Entry.Assign rule ∷ [] ≡ element (ledger_says words c) block place
  unfolding element ledger_says
  assign_element is inside stands = rw (is, stands, rows_at assign_rules words c.assigns place no_assign (assign_below is inside))

  pub revoke_element : {rule : Revoke} → block ≡ Block.Revokes → place < block_size (ledger_says words c) block → rule ≡ row_at revoke_rules words place → Entry.Revoke rule ∷ [] ≡ element (ledger_says words c) block place
  unfolding element ledger_says
  revoke_element is inside stands = rw (is, stands, rows_at revoke_rules words c.revokes place no_revoke (revoke_below is inside))

  pub goal_element : {goal : RoleSet} → block ≡ Block.Goals → place < block_size (ledger_says words c) block → goal ≡ row_at goal_sets words place → Entry.Goal goal ∷ [] ≡ element (ledger_says words c) block place
  unfolding element ledger_says
  goal_element is inside stands = rw (is, stands, rows_at goal_sets words c.goals place empty_set (goal_below is inside))

-- ---- a block, element by element

module _ (words : List ℕ) (c : Counts) (block : Block) where
  pub first_start : [] ≡ lines_in words c (first_of (ledger_says words c) block 0)
  unfolding first_of
  first_start = lines_none words c

  pub first_grows : Grows (λ k. lines_in words c (first_of (ledger_says words c) block k)) (λ k. lines_in words c (element (ledger_says words c) block k))
  unfolding first_of
  first_grows = entries_grow words c (first_of (ledger_says words c) block) (element (ledger_says words c) block) (λ k. refl)

  pub first_all : {size place : ℕ} → size ≡ block_size (ledger_says words c) block → place ≤ size → size ≤ place
      → lines_in words c (first_of (ledger_says words c) block place) ≡ lines_in words c (block_of (ledger_says words c) block)
  unfolding block_of
  first_all {size} {place} is most least =
      let last : place ≡ block_size (ledger_says words c) block = omega arith in
      rw last

-- ---- the whole text, block by block

-- A block's text over a ledger.
abbrev pub block_in : List ℕ → Counts → Block → List ℕ
block_in words c block = lines_in words c (block_of (ledger_says words c) block)

-- The header, the blocks and `end`, each past the one before.
abbrev pub policy_in : List ℕ → Counts → List ℕ
policy_in words c =
    lines_in words c (Entry.Header ∷ []) ++ block_in words c Block.Roles ++ block_in words c Block.Users ++ block_in words c Block.Has ++ block_in words c Block.Assigns ++ block_in words c Block.Revokes ++ block_in words c Block.Goals ++ lines_in words c (Entry.End ∷ [])

module _ (words : List ℕ) (c : Counts) where
  blocks_both : policy_in words c ≡ lines_in words c (entries_of (ledger_says words c))
  unfolding entries_of
  blocks_both = simp (lines_both words c)

  pub policy_text_lem : policy_in words c ≡ policy_text (ledger_says words c)
  unfolding lines_in policy_text
  policy_text_lem = blocks_both

  -- where the whole has room, so have the header, the blocks and `end`
  pub policy_room : {size : ℕ} → length (policy_text (ledger_says words c)) ≤ size
      → length (lines_in words c (Entry.Header ∷ [])) + length (block_in words c Block.Roles) + length (block_in words c Block.Users) + length (block_in words c Block.Has) + length (block_in words c Block.Assigns) + length (block_in words c Block.Revokes) + length (block_in words c Block.Goals) + length (lines_in words c (Entry.End ∷ [])) ≤ size
  policy_room fits = omega (arith, simp length-append at (ap length policy_text_lem))
