-- A line that is read makes the spelling longer by the line that is written of it.
use Rattle.std.specs.Prelude.{ℕ, suc, ◌+◌, ◌≤◌, ◌<◌, Bool, true, false, cond, List, [], ◌∷◌, ◌++◌, ◌≡◌, refl, eqb, length, get_or, set}
use Rattle.std.proofs.Common.{sym, ap, ap₂, ◌∙◌, eqb-true, length-append, get_or-set_same, get_or-set_other, add-one, arith}
use Rattle.std.proofs.lemmas.Bool.{eqb-false}
use Rattle.std.proofs.Math.ListN.{get_or-append}
use Rattle.std.proofs.Math.Seq.{get_or-append_seam}
use Rattle.roles.specs.declared.RoleSet.{RoleSet}
use Rattle.roles.specs.Sets.{empty_set, has_role, with_of}
use Rattle.roles.specs.MemberLaws.{has_empty}
use Rattle.model.specs.declared.Assign.{Assign}
use Rattle.model.specs.declared.Revoke.{Revoke}
use Rattle.model.specs.declared.Person.{Person}
use Rattle.model.specs.Policy.{no_assign, no_revoke, State, newcomer, nobody, person, with_role, granted, joined}
use Rattle.tables.specs.declared.Name.{Name}
use Rattle.tables.specs.Names.{packed, name_at}
use Rattle.lines.specs.declared.Entry.{Entry}
use Rattle.reading.specs.Policy.{Said, noted, added}
use Rattle.text.specs.Forms.{bytes}
use Rattle.writing.specs.Written.{spelled}
use Rattle.showing.specs.Fields.{field}
use Rattle.drafting.specs.declared.Block.{Block}
use Rattle.inscribing.specs.LineText.{line_text, lines_text}
use Rattle.drafting.specs.PolicyText.{held_from, block_size, element}
use Rattle.measuring.specs.Sums.{sum_from, sum_last, sum_same, sum_none, sum_more, weight, weight_with}
use Rattle.measuring.specs.Blocks.{line_size, lines_size, lines_one, held_size, element_size, blocks_length}

-- ---- one element more

-- the elements of a list and one past them
pub old_at : {A : Type 0} (xs : List A) (x past : A) (k : ℕ) → k < length xs → get_or (xs ++ (x ∷ [])) k past ≡ get_or xs k past
old_at xs x past k below = get_or-append xs (x ∷ []) past k below

pub new_at : {A : Type 0} (xs : List A) (x past : A) → get_or (xs ++ (x ∷ [])) (length xs) past ≡ x
new_at xs x past = get_or-append_seam xs x [] past

pub one_longer : {A : Type 0} (xs : List A) (x : A) → length (xs ++ (x ∷ [])) ≡ suc (length xs)
one_longer xs x = length-append xs (x ∷ []) ∙ add-one (length xs)

module _ (f g : ℕ → ℕ) {count size : ℕ} where
  -- as many, each as long
  same_block : size ≡ count → ((k : ℕ) → k < count → g k ≡ f k) → sum_from 0 size g ≡ sum_from 0 count f
  same_block many same = ap (λ (n : ℕ). sum_from 0 n g) many ∙ sum_same 0 count {f = g} {g = f} (λ k from to. same k (omega arith))

  -- one more at the end
  longer_block : {more : ℕ} → size ≡ suc count → ((k : ℕ) → k < count → g k ≡ f k) → g count ≡ more → sum_from 0 size g ≡ sum_from 0 count f + more
  longer_block many same last =
      let on : 0 + count ≡ count = omega arith in
      omega (arith, ap (λ (n : ℕ). sum_from 0 n g) many, sum_last 0 count g, ap g on, last, sum_same 0 count {f = g} {g = f} (λ k from to. same k (omega arith)))

-- none where there is no element
no_block : (f : ℕ → ℕ) {size : ℕ} → size ≡ 0 → sum_from 0 size f ≡ 0
unfolding sum_from
no_block f none = ap (λ (n : ℕ). sum_from 0 n f) none

-- ---- names that a line does not use

role_alone : (roles others users people : List Name) (name : Name) → lines_size roles users (Entry.Role name ∷ []) ≡ lines_size others people (Entry.Role name ∷ [])
unfolding lines_text line_text
role_alone roles others users people name = refl

user_alone : (roles users people : List Name) (name : Name) (clearance : Bool) → lines_size roles users (Entry.User name clearance ∷ []) ≡ lines_size roles people (Entry.User name clearance ∷ [])
unfolding lines_text line_text
user_alone roles users people name clearance = refl

assign_alone : (roles users people : List Name) (rule : Assign) → lines_size roles users (Entry.Assign rule ∷ []) ≡ lines_size roles people (Entry.Assign rule ∷ [])
unfolding lines_text line_text
assign_alone roles users people rule = refl

revoke_alone : (roles users people : List Name) (rule : Revoke) → lines_size roles users (Entry.Revoke rule ∷ []) ≡ lines_size roles people (Entry.Revoke rule ∷ [])
unfolding lines_text line_text
revoke_alone roles users people rule = refl

goal-alone : (roles users people : List Name) (goal : RoleSet) → lines_size roles users (Entry.Goal goal ∷ []) ≡ lines_size roles people (Entry.Goal goal ∷ [])
unfolding lines_text line_text
goal-alone roles users people goal = refl

-- has lines of a user whose name is the same
held_alone : (roles users people : List Name) (user : ℕ) (held : RoleSet) → name_at users user ≡ name_at people user → lines_size roles users (held_from user 0 held roles) ≡ lines_size roles people (held_from user 0 held roles)
unfolding line_text
held_alone roles users people user held same =
    held_size roles users user 0 held roles
    ∙ sum_same 0 (length roles) (λ r from to. ap (λ (name : Name). cond (has_role held r) (suc (length (bytes "has" ++ field (spelled name) ++ field (spelled (name_at roles r))))) 0) same)
    ∙ sym (held_size roles people user 0 held roles)

-- who holds nothing has none
held_none : (roles users : List Name) (user : ℕ) → lines_size roles users (held_from user 0 empty_set roles) ≡ 0
held_none roles users user = held_size roles users user 0 empty_set roles ∙ sum_none 0 (length roles) (λ r. ap (λ (b : Bool). cond b (line_size roles users (Entry.Has user r)) 0) (has_empty r))

-- ---- each kind of entry

-- A role, before any user, rule or goal.
pub role_grows : (s : Said) (name : Name) → length s.users ≡ 0 → length s.assigns ≡ 0 → length s.revokes ≡ 0 → length s.goals ≡ 0
    → blocks_length (added s (Entry.Role name)) ≡ blocks_length s + line_size s.roles s.users (Entry.Role name)
unfolding added noted block_size element name_at
role_grows s name no_users no_assigns no_revokes no_goals =
    let t = added s (Entry.Role name) in
    omega (
      arith,
      longer_block (element_size s Block.Roles) (element_size t Block.Roles) (one_longer s.roles name)
          (λ k below. ap (λ (n : Name). lines_size (s.roles ++ (name ∷ [])) s.users (Entry.Role n ∷ [])) (old_at s.roles name (packed []) k below) ∙ role_alone (s.roles ++ (name ∷ [])) s.roles s.users s.users (get_or s.roles k (packed [])))
          (ap (λ (n : Name). lines_size (s.roles ++ (name ∷ [])) s.users (Entry.Role n ∷ [])) (new_at s.roles name (packed [])) ∙ role_alone (s.roles ++ (name ∷ [])) s.roles s.users s.users name ∙ lines_one s.roles s.users (Entry.Role name)),
      no_block (element_size s Block.Users) no_users,
      no_block (element_size t Block.Users) no_users,
      no_block (element_size s Block.Has) no_users,
      no_block (element_size t Block.Has) no_users,
      no_block (element_size s Block.Assigns) no_assigns,
      no_block (element_size t Block.Assigns) no_assigns,
      no_block (element_size s Block.Revokes) no_revokes,
      no_block (element_size t Block.Revokes) no_revokes,
      no_block (element_size s Block.Goals) no_goals,
      no_block (element_size t Block.Goals) no_goals,
    )

-- A user, who holds nothing yet.
pub user_grows : (s : Said) (name : Name) (clearance : Bool) → length s.holdings ≡ length s.users → blocks_length (added s (Entry.User name clearance)) ≡ blocks_length s + line_size s.roles s.users (Entry.User name clearance)
unfolding added noted block_size element name_at person newcomer joined
user_grows s name clearance people =
    let t = added s (Entry.User name clearance) in
    let new = newcomer clearance in
    let line : Name → Person → ℕ = λ n p. lines_size s.roles (s.users ++ (name ∷ [])) (Entry.User n p.clearance ∷ []) in
    omega (
      arith,
      same_block (element_size s Block.Roles) (element_size t Block.Roles) {count = length s.roles} refl (λ k below. role_alone s.roles s.roles (s.users ++ (name ∷ [])) s.users (get_or s.roles k (packed []))),
      longer_block (element_size s Block.Users) (element_size t Block.Users) (one_longer s.users name)
          (λ k below. ap₂ line (old_at s.users name (packed []) k below) (old_at s.holdings new nobody k (omega arith)) ∙ user_alone s.roles (s.users ++ (name ∷ [])) s.users (get_or s.users k (packed [])) (get_or s.holdings k nobody).clearance)
          (ap₂ line (new_at s.users name (packed [])) (ap (λ (k : ℕ). get_or (s.holdings ++ (new ∷ [])) k nobody) (sym people) ∙ new_at s.holdings new nobody) ∙ user_alone s.roles (s.users ++ (name ∷ [])) s.users name clearance ∙ lines_one s.roles s.users (Entry.User name clearance)),
      longer_block (element_size s Block.Has) (element_size t Block.Has) {more = 0} (one_longer s.users name)
          (λ k below.
          ap (λ (p : Person). lines_size s.roles (s.users ++ (name ∷ [])) (held_from k 0 p.roles s.roles)) (old_at s.holdings new nobody k (omega arith))
          ∙ held_alone s.roles (s.users ++ (name ∷ [])) s.users k (get_or s.holdings k nobody).roles (old_at s.users name (packed []) k below))
          (ap (λ (p : Person). lines_size s.roles (s.users ++ (name ∷ [])) (held_from (length s.users) 0 p.roles s.roles)) (ap (λ (k : ℕ). get_or (s.holdings ++ (new ∷ [])) k nobody) (sym people) ∙ new_at s.holdings new nobody)
          ∙ held_none s.roles (s.users ++ (name ∷ [])) (length s.users)),
      same_block (element_size s Block.Assigns) (element_size t Block.Assigns) {count = length s.assigns} refl (λ k below. assign_alone s.roles (s.users ++ (name ∷ [])) s.users (get_or s.assigns k no_assign)),
      same_block (element_size s Block.Revokes) (element_size t Block.Revokes) {count = length s.revokes} refl (λ k below. revoke_alone s.roles (s.users ++ (name ∷ [])) s.users (get_or s.revokes k no_revoke)),
      same_block (element_size s Block.Goals) (element_size t Block.Goals) {count = length s.goals} refl (λ k below. goal-alone s.roles (s.users ++ (name ∷ [])) s.users (get_or s.goals k empty_set)),
    )

-- A role more leaves clearances as they were.
pub cleared : (σ : State) (user role : ℕ) → user < length σ → (k : ℕ) → (person (granted σ user role) k).clearance ≡ (person σ k).clearance
unfolding person granted with_role
cleared σ user role below k = go (eqb k user) refl
  where
    go : (b : Bool) → eqb k user ≡ b → (get_or (set σ user (with_role (person σ user) role)) k nobody).clearance ≡ (get_or σ k nobody).clearance
    go true e =
        let is = eqb-true k user e in
        ap (λ (j : ℕ). (get_or (set σ user (with_role (person σ user) role)) j nobody).clearance) is
        ∙ ap (λ (p : Person). p.clearance) (get_or-set_same σ user (with_role (person σ user) role) nobody below)
        ∙ ap (λ (j : ℕ). (get_or σ j nobody).clearance) (sym is)
    go false e = ap (λ (p : Person). p.clearance) (get_or-set_other σ user k (with_role (person σ user) role) nobody (eqb-false k user e))

-- A role that a user did not hold.
pub has_grows : (s : Said) (user role : ℕ) → user < length s.users → length s.holdings ≡ length s.users → role < length s.roles → length s.roles ≤ 128 → has_role (person s.holdings user).roles role ≡ false
    → blocks_length (added s (Entry.Has user role)) ≡ blocks_length s + line_size s.roles s.users (Entry.Has user role)
unfolding added noted block_size element person granted with_role weight
has_grows s user role below people known few new =
    let t = added s (Entry.Has user role) in
    let held = (get_or s.holdings user nobody).roles in
    omega (
      arith,
      same_block (element_size s Block.Users) (element_size t Block.Users) {count = length s.users} refl (λ k at. ap (λ (c : Bool). lines_size s.roles s.users (Entry.User (name_at s.users k) c ∷ [])) (cleared s.holdings user role (omega (arith, below, people)) k)),
      sum_more 0 (length s.users) user (line_size s.roles s.users (Entry.Has user role)) {f = element_size s Block.Has} {g = element_size t Block.Has} (omega arith) (omega arith)
          (λ k other. ap (λ (p : Person). lines_size s.roles s.users (held_from k 0 p.roles s.roles)) (get_or-set_other s.holdings user k (with_role (person s.holdings user) role) nobody other))
          (ap (λ (p : Person). lines_size s.roles s.users (held_from user 0 p.roles s.roles)) (get_or-set_same s.holdings user (with_role (person s.holdings user) role) nobody (omega arith))
          ∙ held_size s.roles s.users user 0 (with_of held role) s.roles
          ∙ weight_with (λ (r : ℕ). line_size s.roles s.users (Entry.Has user r)) (length s.roles) held role known few new
          ∙ ap (λ (n : ℕ). n + line_size s.roles s.users (Entry.Has user role)) (sym (held_size s.roles s.users user 0 held s.roles))),
    )

-- A rule or a goal.
pub assign_grows : (s : Said) (rule : Assign) → blocks_length (added s (Entry.Assign rule)) ≡ blocks_length s + line_size s.roles s.users (Entry.Assign rule)
unfolding added noted block_size element
assign_grows s rule =
    let t = added s (Entry.Assign rule) in
    let line : Assign → ℕ = λ r. lines_size s.roles s.users (Entry.Assign r ∷ []) in
    omega (
      arith,
      longer_block (element_size s Block.Assigns) (element_size t Block.Assigns) (one_longer s.assigns rule) (λ k below. ap line (old_at s.assigns rule no_assign k below))
          (ap line (new_at s.assigns rule no_assign) ∙ lines_one s.roles s.users (Entry.Assign rule)),
    )

pub revoke_grows : (s : Said) (rule : Revoke) → blocks_length (added s (Entry.Revoke rule)) ≡ blocks_length s + line_size s.roles s.users (Entry.Revoke rule)
unfolding added noted block_size element
revoke_grows s rule =
    let t = added s (Entry.Revoke rule) in
    let line : Revoke → ℕ = λ r. lines_size s.roles s.users (Entry.Revoke r ∷ []) in
    omega (
      arith,
      longer_block (element_size s Block.Revokes) (element_size t Block.Revokes) (one_longer s.revokes rule) (λ k below. ap line (old_at s.revokes rule no_revoke k below))
          (ap line (new_at s.revokes rule no_revoke) ∙ lines_one s.roles s.users (Entry.Revoke rule)),
    )

pub goal_grows : (s : Said) (goal : RoleSet) → blocks_length (added s (Entry.Goal goal)) ≡ blocks_length s + line_size s.roles s.users (Entry.Goal goal)
unfolding added noted block_size element
goal_grows s goal =
    let t = added s (Entry.Goal goal) in
    let line : RoleSet → ℕ = λ g. lines_size s.roles s.users (Entry.Goal g ∷ []) in
    omega (
      arith,
      longer_block (element_size s Block.Goals) (element_size t Block.Goals) (one_longer s.goals goal) (λ k below. ap line (old_at s.goals goal empty_set k below))
          (ap line (new_at s.goals goal empty_set) ∙ lines_one s.roles s.users (Entry.Goal goal)),
    )
