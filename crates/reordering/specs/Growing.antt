-- A line that is read adds the line that is written of it: before the has lines, among them, or after them.
use Rattle.std.specs.Prelude.{ℕ, suc, ◌≤◌, ◌<◌, Bool, false, cond, ◌≡◌, refl, length, get_or}
use mathlib.Core.List.{List, [], ◌∷◌, ◌++◌, map, append_assoc, append-nil}
use Rattle.std.proofs.Common.{sym, subst, ◌∙◌, get_or-set_same, get_or-set_other, arith}
use Rattle.std.proofs.Math.Path.{ap, ap₂}
use Rattle.roles.specs.declared.RoleSet.{RoleSet}
use Rattle.roles.specs.Sets.{empty_set, has_role, with_of}
use Rattle.model.specs.declared.Assign.{Assign}
use Rattle.model.specs.declared.Revoke.{Revoke}
use Rattle.model.specs.declared.Person.{Person}
use Rattle.model.specs.Policy.{no_assign, no_revoke, newcomer, nobody, person, with_role, granted, joined}
use Rattle.tables.specs.declared.Name.{Name}
use Rattle.tables.specs.Names.{packed, name_at}
use Rattle.text.specs.Forms.{bytes}
use Rattle.lines.specs.declared.Entry.{Entry}
use Rattle.lines.specs.Lines.{role_kind, user_kind, has_kind}
use Rattle.reading.specs.Policy.{Said, nothing, kind_of, noted, added}
use Rattle.writing.specs.Written.{spelled}
use Rattle.showing.specs.Fields.{field}
use Rattle.spelling.specs.TypingText.{label_text}
use Rattle.drafting.specs.declared.Block.{Block}
use Rattle.inscribing.specs.LineText.{line_text}
use Rattle.drafting.specs.PolicyText.{held_from, block_size, element}
use Rattle.measuring.specs.Growth.{old_at, new_at, one_longer, cleared}
use Rattle.reordering.specs.Alike.{Inserted}
use Rattle.reordering.specs.Picked.{gathered, gathered_same, gathered_put, picked, picked_none, picked_put, picked_map}
use Rattle.reordering.specs.WrittenLines.{element_lines, written, headed, headed-past, before_of, after_of}

-- ---- one element more

module _ (f g : ℕ → List (List ℕ)) {count size : ℕ} where
  -- as many, each the same
  same_block : size ≡ count → ((k : ℕ) → k < count → g k ≡ f k) → gathered g size ≡ gathered f count
  same_block many same = ap (gathered g) many ∙ gathered_same f g count same

  -- one more at the end
  longer_block : {more : List (List ℕ)} → size ≡ suc count → ((k : ℕ) → k < count → g k ≡ f k) → g count ≡ more → gathered g size ≡ gathered f count ++ more
  unfolding gathered
  longer_block many same last = ap (gathered g) many ∙ ap₂ ◌++◌ (gathered_same f g count same) last

-- none where there is no element
no_block : (s : Said) (block : Block) → block_size s block ≡ 0 → written s block ≡ []
unfolding written gathered
no_block s block none = ap (gathered (element_lines s block)) none

-- the has lines of a user, by the places of the user's roles
pub held_picked : (user role : ℕ) (held : RoleSet) (names : List Name) → held_from user role held names ≡ picked (Entry.Has user) role (length names) held
unfolding held_from picked
held_picked user role held [] = refl
held_picked user role held (name ∷ names) = ap (λ (l : List Entry). cond (has_role held role) (Entry.Has user role ∷ l) l) (held_picked user (suc role) held names)

held_lines : (roles users : List Name) (user role : ℕ) (held : RoleSet) (names : List Name)
    → map (line_text roles users) (held_from user role held names) ≡ picked (λ (r : ℕ). line_text roles users (Entry.Has user r)) role (length names) held
held_lines roles users user role held names = ap (map (line_text roles users)) (held_picked user role held names) ∙ picked_map (line_text roles users) (Entry.Has user) role (length names) held

-- ---- each kind of entry

-- What an entry adds to the lines that are written, and where it stands.
pub data Grown (s t : Said) (line : List ℕ) : Type 0 where
  naming : s.stage ≤ user_kind → before_of t ≡ before_of s ++ (line ∷ []) → written t Block.Has ≡ written s Block.Has → after_of t ≡ after_of s → Grown s t line
  granting : s.stage ≤ has_kind → t.stage ≡ has_kind → before_of t ≡ before_of s → Inserted line (written s Block.Has) (written t Block.Has) → after_of t ≡ after_of s → Grown s t line
  ruling : has_kind < t.stage → before_of t ≡ before_of s → written t Block.Has ≡ written s Block.Has → after_of t ≡ after_of s ++ (line ∷ []) → Grown s t line

-- no rule and no goal
pub none_after : (s : Said) → length s.assigns ≡ 0 → length s.revokes ≡ 0 → length s.goals ≡ 0 → after_of s ≡ []
unfolding after_of block_size
none_after s no_assigns no_revokes no_goals = ap₂ ◌++◌ (ap₂ ◌++◌ (no_block s Block.Assigns no_assigns) (no_block s Block.Revokes no_revokes)) (no_block s Block.Goals no_goals)

-- The header, before any other line.
pub header_grown : {s : Said} → nothing ≡ s → Grown s (added s Entry.Header) (line_text s.roles s.users Entry.Header)
unfolding nothing before_of after_of written gathered block_size added noted kind_of headed line_text
header_grown is = subst (λ (s : Said). Grown s (added s Entry.Header) (line_text s.roles s.users Entry.Header)) is start
  where
    start : Grown nothing (added nothing Entry.Header) (line_text nothing.roles nothing.users Entry.Header)
    start = naming (omega arith) refl refl refl

-- past the header it stays
header_stays : (s : Said) (e : Entry) → 10 ≤ s.stage → 10 ≤ kind_of e → headed (kind_of e) ≡ headed s.stage
header_stays s e from to = headed-past (kind_of e) to ∙ sym (headed-past s.stage from)

-- A role, before any user, rule or goal.
pub role_grown : (s : Said) (name : Name) → 10 ≤ s.stage → s.stage ≤ role_kind → length s.users ≡ 0 → length s.assigns ≡ 0 → length s.revokes ≡ 0 → length s.goals ≡ 0
    → Grown s (added s (Entry.Role name)) (line_text s.roles s.users (Entry.Role name))
unfolding before_of written added noted kind_of block_size element name_at line_text
role_grown s name past at no_users no_assigns no_revokes no_goals =
    let t = added s (Entry.Role name) in
    let line : Name → List (List ℕ) = λ n. (bytes "role" ++ field (spelled n)) ∷ [] in
    let roles : written t Block.Roles ≡ written s Block.Roles ++ line name =
    longer_block (element_lines s Block.Roles) (element_lines t Block.Roles) (one_longer s.roles name) (λ k below. ap line (old_at s.roles name (packed []) k below)) (ap line (new_at s.roles name (packed []))) in
    naming (omega (arith, at))
    (ap₂ ◌++◌ (ap₂ ◌++◌ (header_stays s (Entry.Role name) past (omega arith)) roles) (no_block t Block.Users no_users)
    ∙ append-nil (headed s.stage ++ (written s Block.Roles ++ line name))
    ∙ sym (append_assoc (headed s.stage) (written s Block.Roles) (line name))
    ∙ ap (λ (l : List (List ℕ)). l ++ line name) (sym (append-nil (headed s.stage ++ written s Block.Roles)) ∙ ap (λ (l : List (List ℕ)). headed s.stage ++ written s Block.Roles ++ l) (sym (no_block s Block.Users no_users))))
    (no_block t Block.Has no_users ∙ sym (no_block s Block.Has no_users))
    (none_after t no_assigns no_revokes no_goals ∙ sym (none_after s no_assigns no_revokes no_goals))

-- A user, who holds nothing yet.
pub user_grown : (s : Said) (name : Name) (clearance : Bool) → 10 ≤ s.stage → s.stage ≤ user_kind → length s.holdings ≡ length s.users → Grown s (added s (Entry.User name clearance)) (line_text s.roles s.users (Entry.User name clearance))
unfolding before_of after_of written added noted kind_of block_size element name_at line_text person newcomer joined
user_grown s name clearance past at people =
    let t = added s (Entry.User name clearance) in
    let new = newcomer clearance in
    let line : Name → Person → List (List ℕ) = λ n p. (bytes "user" ++ field (spelled n) ++ field (label_text p.clearance)) ∷ [] in
    let held : ℕ → Name → Person → List (List ℕ) = λ k n p. picked (λ (r : ℕ). bytes "has" ++ field (spelled n) ++ field (spelled (name_at s.roles r))) 0 (length s.roles) p.roles in
    let latest : get_or (s.holdings ++ (new ∷ [])) (length s.users) nobody ≡ new = ap (λ (k : ℕ). get_or (s.holdings ++ (new ∷ [])) k nobody) (sym people) ∙ new_at s.holdings new nobody in
    let users : written t Block.Users ≡ written s Block.Users ++ line name new =
    longer_block (element_lines s Block.Users) (element_lines t Block.Users) (one_longer s.users name)
    (λ k below. ap₂ line (old_at s.users name (packed []) k below) (old_at s.holdings new nobody k (omega (arith, people, below)))) (ap₂ line (new_at s.users name (packed [])) latest) in
    let has : written t Block.Has ≡ written s Block.Has ++ [] =
    longer_block (element_lines s Block.Has) (element_lines t Block.Has) (one_longer s.users name)
    (λ k below.
    held_lines s.roles (s.users ++ (name ∷ [])) k 0 (get_or (s.holdings ++ (new ∷ [])) k nobody).roles s.roles
    ∙ ap₂ (held k) (old_at s.users name (packed []) k below) (old_at s.holdings new nobody k (omega (arith, people, below)))
    ∙ sym (held_lines s.roles s.users k 0 (get_or s.holdings k nobody).roles s.roles))
    (held_lines s.roles (s.users ++ (name ∷ [])) (length s.users) 0 (get_or (s.holdings ++ (new ∷ [])) (length s.users) nobody).roles s.roles
    ∙ ap (held (length s.users) (get_or (s.users ++ (name ∷ [])) (length s.users) (packed []))) latest
    ∙ picked_none (λ (r : ℕ). bytes "has" ++ field (spelled (get_or (s.users ++ (name ∷ [])) (length s.users) (packed []))) ++ field (spelled (name_at s.roles r))) 0 (length s.roles)) in
    naming (omega (arith, at))
    (ap₂ ◌++◌ (ap (λ (l : List (List ℕ)). l ++ written s Block.Roles) (header_stays s (Entry.User name clearance) past (omega arith))) users
    ∙ sym (append_assoc (headed s.stage ++ written s Block.Roles) (written s Block.Users) (line name new)))
    (has ∙ append-nil (written s Block.Has)) refl

-- A role that a user did not hold.
pub has_grown : (s : Said) (user role : ℕ) → 10 ≤ s.stage → s.stage ≤ has_kind → user < length s.users → length s.holdings ≡ length s.users → role < length s.roles → length s.roles ≤ 128
    → has_role (person s.holdings user).roles role ≡ false → Grown s (added s (Entry.Has user role)) (line_text s.roles s.users (Entry.Has user role))
unfolding before_of after_of written added noted kind_of block_size element person granted with_role
has_grown s user role past at below people known few new =
    let t = added s (Entry.Has user role) in
    let held = (get_or s.holdings user nobody).roles in
    let lines_of : ℕ → Person → List (List ℕ) = λ k p. map (line_text s.roles s.users) (held_from k 0 p.roles s.roles) in
    let users : written t Block.Users ≡ written s Block.Users =
    same_block (element_lines s Block.Users) (element_lines t Block.Users) {count = length s.users} refl
    (λ k at. ap (λ (c : Bool). line_text s.roles s.users (Entry.User (name_at s.users k) c) ∷ []) (cleared s.holdings user role (omega (arith, below, people)) k)) in
    granting at refl (ap₂ ◌++◌ (ap (λ (l : List (List ℕ)). l ++ written s Block.Roles) (header_stays s (Entry.Has user role) past (omega arith))) users)
    (gathered_put (element_lines s Block.Has) (element_lines t Block.Has) (length s.users) user below
    (λ k other. ap (lines_of k) (get_or-set_other s.holdings user k (with_role (person s.holdings user) role) nobody other))
    (subst (λ (l : List (List ℕ)). Inserted (line_text s.roles s.users (Entry.Has user role)) (lines_of user (person s.holdings user)) l)
    (sym (ap (lines_of user) (get_or-set_same s.holdings user (with_role (person s.holdings user) role) nobody (omega (arith, below, people))) ∙ held_lines s.roles s.users user 0 (with_of held role) s.roles))
    (subst (λ (l : List (List ℕ)). Inserted (line_text s.roles s.users (Entry.Has user role)) l (picked (λ (r : ℕ). line_text s.roles s.users (Entry.Has user r)) 0 (length s.roles) (with_of held role)))
    (sym (held_lines s.roles s.users user 0 held s.roles))
    (picked_put (λ (r : ℕ). line_text s.roles s.users (Entry.Has user r)) 0 (length s.roles) role held (omega arith) (omega (arith, known)) (omega (arith, known, few)) new))))
    refl

-- ---- a rule or a goal

-- the lines before them stay
before_stays : (s : Said) (e : Entry) → 10 ≤ s.stage → 10 ≤ kind_of e → headed (kind_of e) ++ written s Block.Roles ++ written s Block.Users ≡ before_of s
unfolding before_of
before_stays s e from to = ap (λ (l : List (List ℕ)). l ++ written s Block.Roles ++ written s Block.Users) (header_stays s e from to)

pub assign_grown : (s : Said) (rule : Assign) → 10 ≤ s.stage → length s.revokes ≡ 0 → length s.goals ≡ 0 → Grown s (added s (Entry.Assign rule)) (line_text s.roles s.users (Entry.Assign rule))
unfolding before_of after_of written added noted kind_of block_size element
assign_grown s rule past no_revokes no_goals =
    let t = added s (Entry.Assign rule) in
    let line : Assign → List (List ℕ) = λ r. line_text s.roles s.users (Entry.Assign r) ∷ [] in
    let more = longer_block (element_lines s Block.Assigns) (element_lines t Block.Assigns) (one_longer s.assigns rule) (λ k below. ap line (old_at s.assigns rule no_assign k below)) (ap line (new_at s.assigns rule no_assign)) in
    let revokes = no_block s Block.Revokes no_revokes in
    let goals = no_block s Block.Goals no_goals in
    ruling (omega arith) (before_stays s (Entry.Assign rule) past (omega arith)) refl
    (ap₂ ◌++◌ (ap₂ ◌++◌ more revokes) goals ∙ append-nil (written s Block.Assigns ++ line rule ++ []) ∙ append-nil (written s Block.Assigns ++ line rule)
    ∙ ap (λ (l : List (List ℕ)). l ++ line rule) (sym (ap₂ ◌++◌ (ap (λ (l : List (List ℕ)). written s Block.Assigns ++ l) revokes) goals ∙ append-nil (written s Block.Assigns ++ []) ∙ append-nil (written s Block.Assigns))))

pub revoke_grown : (s : Said) (rule : Revoke) → 10 ≤ s.stage → length s.goals ≡ 0 → Grown s (added s (Entry.Revoke rule)) (line_text s.roles s.users (Entry.Revoke rule))
unfolding before_of after_of written added noted kind_of block_size element
revoke_grown s rule past no_goals =
    let t = added s (Entry.Revoke rule) in
    let line : Revoke → List (List ℕ) = λ r. line_text s.roles s.users (Entry.Revoke r) ∷ [] in
    let more = longer_block (element_lines s Block.Revokes) (element_lines t Block.Revokes) (one_longer s.revokes rule) (λ k below. ap line (old_at s.revokes rule no_revoke k below)) (ap line (new_at s.revokes rule no_revoke)) in
    let goals = no_block s Block.Goals no_goals in
    ruling (omega arith) (before_stays s (Entry.Revoke rule) past (omega arith)) refl
    (ap₂ (λ (l m : List (List ℕ)). written s Block.Assigns ++ l ++ m) more goals ∙ append-nil (written s Block.Assigns ++ (written s Block.Revokes ++ line rule)) ∙ sym (append_assoc (written s Block.Assigns) (written s Block.Revokes) (line rule))
    ∙ ap (λ (l : List (List ℕ)). l ++ line rule) (sym (ap (λ (l : List (List ℕ)). written s Block.Assigns ++ written s Block.Revokes ++ l) goals ∙ append-nil (written s Block.Assigns ++ written s Block.Revokes))))

pub goal_grown : (s : Said) (goal : RoleSet) → 10 ≤ s.stage → Grown s (added s (Entry.Goal goal)) (line_text s.roles s.users (Entry.Goal goal))
unfolding before_of after_of written added noted kind_of block_size element
goal_grown s goal past =
    let t = added s (Entry.Goal goal) in
    let line : RoleSet → List (List ℕ) = λ g. line_text s.roles s.users (Entry.Goal g) ∷ [] in
    let more = longer_block (element_lines s Block.Goals) (element_lines t Block.Goals) (one_longer s.goals goal) (λ k below. ap line (old_at s.goals goal empty_set k below)) (ap line (new_at s.goals goal empty_set)) in
    ruling (omega arith) (before_stays s (Entry.Goal goal) past (omega arith)) refl
    (ap (λ (l : List (List ℕ)). written s Block.Assigns ++ written s Block.Revokes ++ l) more ∙ sym (append_assoc (written s Block.Assigns ++ written s Block.Revokes) (written s Block.Goals) (line goal)))
