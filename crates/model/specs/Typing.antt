-- Typings, the closure, what passes, what is accepted, and the sum, in the order of document 01, "Typings".
use Rattle.std.specs.Prelude.{ℕ, ◌<◌, ◌||◌, ◌⊎◌, ◌≡◌, length}
use mathlib.Core.List.{Memᴰ as Listed}
use Rattle.roles.specs.declared.RoleSet.{RoleSet}
use Rattle.roles.specs.Sets.{empty_set, with_of, union_of}
use Rattle.roles.specs.Members.{◌∈◌, Share, Within}
use Rattle.model.specs.declared.Assign.{Assign}
use Rattle.model.specs.declared.Revoke.{Revoke}
use Rattle.model.specs.declared.Person.{Person}
use Rattle.model.specs.Policy.{Label, L, H, ◌⊑◌, Policy, State, person}

-- A label, a plus set and a minus set for each role. Meaning: who holds the role has at least that clearance, holds all the
-- plus roles and none of the minus roles.
pub record Typing : Type 0 where
  pub label : ℕ → Label
  pub plus : ℕ → RoleSet
  pub minus : ℕ → RoleSet

-- A role is inconsistent when its two sets share a role, and consistent when they share nothing.
pub record Inconsistent (Γ : Typing) (role : ℕ) : Type 0 where
  pub shared : Share (Γ.plus role) (Γ.minus role)

-- The closure of a pair (held, absent): the least pair that contains it and obeys (a), (b) and (c).
-- (a) a held role's plus set is held
pub data Held (Γ : Typing) (held : RoleSet) : ℕ → Type 0 where
  start : {role : ℕ} → role ∈ held → Held Γ held role
  a : {role other : ℕ} → Held Γ held role → other ∈ Γ.plus role → Held Γ held other

-- (b) a held role's minus set is absent
-- (c) a role whose plus set shares a role with absent is absent
pub data Absent (Γ : Typing) (held absent : RoleSet) : ℕ → Type 0 where
  start : {role : ℕ} → role ∈ absent → Absent Γ held absent role
  b : {role other : ℕ} → Held Γ held role → other ∈ Γ.minus role → Absent Γ held absent other
  c : {role other : ℕ} → other ∈ Γ.plus role → Absent Γ held absent other → Absent Γ held absent role

-- What makes a pair of sets larger: which roles are then held and which absent. The rules below are read with any such
-- closing; document 01's is the closure.
pub record Closing : Type 1 where
  pub held : Typing → RoleSet → RoleSet → ℕ → Type 0
  pub absent : Typing → RoleSet → RoleSet → ℕ → Type 0

unfoldable pub closure : Closing
closure = record { held = λ Γ held absent. Held Γ held; absent = λ Γ held absent. Absent Γ held absent }

-- A label is at most the highest label among the held roles, L if none.
pub data UpTo (Γ : Typing) (held : ℕ → Type 0) (label : Label) : Type 0 where
  lowest : label ≡ L → UpTo Γ held label
  reached : {role : ℕ} → held role → label ⊑ Γ.label role → UpTo Γ held label

-- Some role is both held and absent.
pub record Clash (held absent : ℕ → Type 0) : Type 0 where
  pub role : ℕ
  pub is_held : held role
  pub is_absent : absent role

-- What must hold of a target role where its user's roles include the held and none of the absent ones.
pub record Suits (Γ : Typing) (held absent : ℕ → Type 0) (target : ℕ) : Type 0 where
  -- the target's label is at most the highest label among held
  pub label : UpTo Γ held (Γ.label target)
  -- no role outside absent has the target in its minus set
  pub unopposed : {role : ℕ} → target ∈ Γ.minus role → absent role
  -- the target's minus set lies within absent without the target
  pub minus : {role : ℕ} → role ∈ Γ.minus target → absent role × (role ≡ target → ⊥)
  -- its plus set lies within held with the target added
  pub plus : {role : ℕ} → role ∈ Γ.plus target → held role ⊎ (role ≡ target)

-- What is held, and what is absent, by the closing of (positive, negative with the target added).
abbrev pub HeldFor : Closing → Typing → Assign → ℕ → Type 0
HeldFor C Γ rule = C.held Γ rule.positive (with_of rule.negative rule.target)

abbrev pub AbsentFor : Closing → Typing → Assign → ℕ → Type 0
AbsentFor C Γ rule = C.absent Γ rule.positive (with_of rule.negative rule.target)

-- An assign rule passes when its administrative role is inconsistent; or the closure of (positive, negative with the target
-- added) has a role both held and absent; or all four hold.
pub data AssignPasses (C : Closing) (Γ : Typing) (rule : Assign) : Type 0 where
  no_actor : Inconsistent Γ rule.admin → AssignPasses C Γ rule
  no_user : Clash (HeldFor C Γ rule) (AbsentFor C Γ rule) → AssignPasses C Γ rule
  suits : Suits Γ (HeldFor C Γ rule) (AbsentFor C Γ rule) rule.target → AssignPasses C Γ rule

-- A revoke rule passes when its administrative role is inconsistent, or no role other than the target has the target in its
-- plus set.
pub data RevokePasses (Γ : Typing) (rule : Revoke) : Type 0 where
  no_actor : Inconsistent Γ rule.admin → RevokePasses Γ rule
  unneeded : ((role : ℕ) → rule.target ∈ Γ.plus role → role ≡ rule.target) → RevokePasses Γ rule

-- The holdings pass when, for every user and every role that user holds, the role's label is at most the clearance, its minus
-- set shares nothing with the user's roles, and its plus set lies within them.
pub record WellTyped (Γ : Typing) (p : Person) : Type 0 where
  pub label : {role : ℕ} → role ∈ p.roles → Γ.label role ⊑ p.clearance
  pub minus : {role : ℕ} → role ∈ p.roles → Share (Γ.minus role) p.roles → ⊥
  pub plus : {role : ℕ} → role ∈ p.roles → Within (Γ.plus role) p.roles

pub record HoldingsPass (Γ : Typing) (σ : State) : Type 0 where
  pub user : {user : ℕ} → user < length σ → WellTyped Γ (person σ user)

-- A goal passes when the closure of (goal, nothing) has a held role labelled H or a role both held and absent.
pub data GoalPasses (C : Closing) (Γ : Typing) (goal : RoleSet) : Type 0 where
  high : {role : ℕ} → C.held Γ goal empty_set role → Γ.label role ≡ H → GoalPasses C Γ goal
  never : Clash (C.held Γ goal empty_set) (C.absent Γ goal empty_set) → GoalPasses C Γ goal

-- The assign and revoke rules of a policy pass.
pub record RulesPass (C : Closing) (Γ : Typing) (P : Policy) : Type 0 where
  pub assigns : {rule : Assign} → Listed rule P.assigns → AssignPasses C Γ rule
  pub revokes : {rule : Revoke} → Listed rule P.revokes → RevokePasses Γ rule

-- A typing is accepted when holdings, assign rules, revoke rules and goals all pass.
pub record AcceptedBy (C : Closing) (Γ : Typing) (P : Policy) (σ : State) : Type 0 where
  pub holdings : HoldingsPass Γ σ
  pub rules : RulesPass C Γ P
  pub goals : {goal : RoleSet} → Listed goal P.goals → GoalPasses C Γ goal

abbrev pub Accepted : Typing → Policy → State → Type 0
Accepted = AcceptedBy closure

-- Sum: the label of the sum is H when either is H; plus and minus sets are unions, role by role.
unfoldable pub sum : Typing → Typing → Typing
sum Γ Δ = record {
  label = λ role. Γ.label role || Δ.label role;
  plus = λ role. union_of (Γ.plus role) (Δ.plus role);
  minus = λ role. union_of (Γ.minus role) (Δ.minus role);
}

-- Two policies over the same start state, each typing accepted for its own policy and passing the other's rules.
pub record Compatible (C : Closing) (Γ Δ : Typing) (P Q : Policy) (σ : State) : Type 0 where
  pub one : AcceptedBy C Γ P σ
  pub two : AcceptedBy C Δ Q σ
  pub one_on_two : RulesPass C Γ Q
  pub two_on_one : RulesPass C Δ P
