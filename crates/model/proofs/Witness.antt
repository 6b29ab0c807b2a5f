-- The meaning is no empty shell: the desk policy has an accepted typing, the loose desk has a run of two steps to a bad state, a policy is
-- bad only by runs in which somebody joins, and who has left makes no step.
use Rattle.std.specs.Prelude.{ℕ, zero, suc, ◌<◌, true, ◌≡◌, refl, length}
use Rattle.std.proofs.lemmas.Bool.{false≢true}
use Rattle.std.proofs.Common.{true≢false, sym, subst, ◌∙◌, lit<, arith}
use mathlib.Core.List.Memᴰ
use mathlib.Core.List.Memᴰ.{head as first}
use mathlib.Core.List.Memᴰ.{tail as later}
use mathlib.Core.List.{[], ◌∷◌, Memᴰ as Listed}
use Rattle.std.proofs.Math.Path.{subst⁻¹}
use Rattle.roles.specs.declared.RoleSet.{RoleSet}
use Rattle.roles.specs.Sets.{bit, has_role, empty_set, single_of, union_of, meet_of, with_of, same_set, shares_role, includes}
use Rattle.roles.specs.Members.{◌∈◌}
use Rattle.roles.specs.MemberLaws.{empty_none, single_only, single_own, with_old, with_new_lem, share_none, includes_within}
use Rattle.model.specs.declared.Assign.{Assign}
use Rattle.model.specs.declared.Person.{Person}
use Rattle.model.specs.Policy.{Label, L, H, Policy, assigning, State, newcomer, nobody, person, CanAssign, with_role, without_role, granted, revoked, Step, leaver, joined, departed, Move, Runs, Bad}
use Rattle.model.specs.Typing.{Typing, Held, Absent, closure, UpTo, AssignPasses, WellTyped, GoalPasses, Accepted}
use Rattle.model.proofs.States.{everyone, runs_keep}
use Rattle.model.proofs.Safety.{Attack}

abbrev adm : ℕ
adm = 0

abbrev pay : ℕ
pay = 1

abbrev buy : ℕ
buy = 2

-- a rule of the desk: adm gives a role to who has none of the negative set
abbrev giving : RoleSet → ℕ → Assign
giving = assigning adm empty_set

abbrev goal : RoleSet
goal = with_of (single_of pay) buy

-- the desk policy, and the loose desk, whose first assign line has no negative set
pub desk : Policy
desk = record { assigns = giving (single_of buy) pay ∷ giving (single_of pay) buy ∷ []; revokes = []; goals = goal ∷ [] }

pub loose : Policy
loose = record { assigns = giving empty_set pay ∷ giving (single_of pay) buy ∷ []; revokes = []; goals = goal ∷ [] }

-- ann, H, holds adm; bob, L, holds nothing
abbrev ann : Person
ann = record { clearance = H; present = true; roles = single_of adm }

abbrev bob : Person
bob = newcomer L

pub staff : State
staff = ann ∷ bob ∷ []

-- typing T1: adm is H; pay excludes buy, and buy excludes pay
abbrev t1_label : ℕ → Label
t1_label zero = H
t1_label (suc role) = L

abbrev t1_minus : ℕ → RoleSet
t1_minus zero = empty_set
t1_minus (suc zero) = single_of buy
t1_minus (suc (suc zero)) = single_of pay
t1_minus (suc (suc (suc role))) = empty_set

pub t1 : Typing
t1 = record { label = t1_label; plus = λ role. empty_set; minus = t1_minus }

-- ---- the desk policy has an accepted typing

-- A rule that gives one of the two roles to who lacks the other passes: each excludes the other and no third role excludes it.
desk_rule : (own other : ℕ) → (own ≡ other → ⊥) → t1_label own ≡ L → ((role : ℕ) → own ∈ t1_minus role → role ≡ other) → t1_minus own ≡ single_of other → other ∈ single_of other
    → AssignPasses closure t1 (giving (single_of other) own)
unfolding closure t1
desk_rule own other apart low opposed excluded here = AssignPasses.suits (record {
  label = UpTo.lowest low;
  unopposed = λ {role} m. subst⁻¹ (λ (r : ℕ). Absent t1 empty_set (with_of (single_of other) own) r) (opposed role m) other_absent;
  minus = λ {role} m.
      let same : role ≡ other = single_only (subst (λ (s : RoleSet). role ∈ s) excluded m) in
      (subst⁻¹ (λ (r : ℕ). Absent t1 empty_set (with_of (single_of other) own) r) same other_absent, λ e. apart (sym e ∙ same));
  plus = λ m. absurd (empty_none m);
})
  where
    other_absent : Absent t1 empty_set (with_of (single_of other) own) other
    other_absent = Absent.start (with_old own here)

-- only buy excludes pay, and only pay excludes buy
excludes_pay : (role : ℕ) → pay ∈ t1_minus role → role ≡ buy
excludes_pay zero m = absurd (empty_none m)
excludes_pay (suc zero) m = absurd (omega (arith, single_only m))
excludes_pay (suc (suc zero)) m = refl
excludes_pay (suc (suc (suc role))) m = absurd (empty_none m)

excludes_buy : (role : ℕ) → buy ∈ t1_minus role → role ≡ pay
excludes_buy zero m = absurd (empty_none m)
excludes_buy (suc zero) m = refl
excludes_buy (suc (suc zero)) m = absurd (omega (arith, single_only m))
excludes_buy (suc (suc (suc role))) m = absurd (empty_none m)

staff_typed : (user : ℕ) → user < length staff → WellTyped t1 (person staff user)
unfolding staff person newcomer t1
staff_typed zero here = record {
  label = λ m. record { raised = λ high. refl };
  minus = λ {role} m shared. empty_none (subst (λ (r : ℕ). shared.role ∈ t1_minus r) (single_only m) shared.first);
  plus = λ m. record { every = λ e. absurd (empty_none e) };
}
staff_typed (suc zero) here = record { label = λ m. absurd (empty_none m); minus = λ m. absurd (empty_none m); plus = λ m. absurd (empty_none m) }
staff_typed (suc (suc user)) here = absurd (omega (arith, here))

desk-rules : (rule : Assign) → Listed rule (giving (single_of buy) pay ∷ giving (single_of pay) buy ∷ []) → AssignPasses closure t1 rule
desk-rules rule (first e) = subst⁻¹ (AssignPasses closure t1) e (desk_rule pay buy (λ e. omega arith) refl excludes_pay refl (single_own (lit< tt)))
desk-rules rule (later (first e)) = subst⁻¹ (AssignPasses closure t1) e (desk_rule buy pay (λ e. omega arith) refl excludes_buy refl (single_own (lit< tt)))
desk-rules rule (later (later m)) = absurd (Memᴰ.not-nil m)

-- pay is held, and absent since buy is held
goal_passes_lem : (g : RoleSet) → Listed g (goal ∷ []) → GoalPasses closure t1 g
unfolding closure t1
goal_passes_lem g (first e) = subst⁻¹ (GoalPasses closure t1) e (GoalPasses.never (record {
  role = pay;
  is_held = Held.start (with_old buy (single_own (lit< tt)));
  is_absent = Absent.b (Held.start (with_new_lem (single_of pay) (lit< tt))) (single_own (lit< tt));
}))
goal_passes_lem g (later m) = absurd (Memᴰ.not-nil m)

pub desk_accepted : Accepted t1 desk staff
unfolding desk
desk_accepted = record {
  holdings = record { user = λ {user} here. staff_typed user here };
  rules = record { assigns = λ {rule} listed. desk-rules rule listed; revokes = λ listed. absurd (Memᴰ.not-nil listed) };
  goals = λ {goal = g} listed. goal_passes_lem g listed;
}

-- ---- the loose desk has a run of two steps to a bad state

-- ann gives bob buy, then pay
pub loose_attack : Attack loose staff
unfolding loose staff person newcomer nobody granted with_role bit has_role empty_set single_of union_of meet_of with_of same_set shares_role includes
loose_attack = record {
  last = granted (granted staff 1 buy) 1 pay;
  run = Runs.next (Runs.next Runs.stay (Move.step (Step.assign {rule = giving (single_of pay) buy} {actor = 0} {user = 1} (later (first refl)) can_buy (λ h. false≢true h.held.found))))
      (Move.step (Step.assign {rule = giving empty_set pay} {actor = 0} {user = 1} (first refl) can_pay (λ h. false≢true h.held.found)));
  bad = record {
    user = 1;
    present = record { listed = lit< tt; here = refl };
    low = refl;
    goal = goal;
    listed = first refl;
    holds = record { all = includes_within goal _ refl };
  };
}
  where
    can_buy : CanAssign staff 0 (giving (single_of pay) buy) 1
    can_buy = record {
      actor_present = record { listed = lit< tt; here = refl };
      actor_holds = record { held = record { found = refl } };
      user_present = record { listed = lit< tt; here = refl };
      all = record { all = includes_within empty_set empty_set refl };
      none = record { none = share_none (single_of pay) empty_set refl };
    }

    can_pay : CanAssign (granted staff 1 buy) 0 (giving empty_set pay) 1
    can_pay = record {
      actor_present = record { listed = lit< tt; here = refl };
      actor_holds = record { held = record { found = refl } };
      user_present = record { listed = lit< tt; here = refl };
      all = record { all = includes_within empty_set _ refl };
      none = record { none = share_none empty_set _ refl };
    }

-- ---- a policy that is bad only by runs in which somebody joins

-- adm gives pay to anybody, and nobody low may hold it; ann alone is listed
pub paid : Policy
paid = record { assigns = giving empty_set pay ∷ []; revokes = []; goals = single_of pay ∷ [] }

pub alone : State
alone = ann ∷ []

-- Somebody low joins, and ann gives pay.
pub joiner_attack : Attack paid alone
unfolding paid alone person newcomer nobody joined granted with_role bit has_role empty_set single_of union_of meet_of with_of same_set shares_role includes
joiner_attack = record {
  last = granted (joined alone L) 1 pay;
  run = Runs.next (Runs.next Runs.stay (Move.join L)) (Move.step (Step.assign {rule = giving empty_set pay} {actor = 0} {user = 1} (first refl) can_pay (λ h. false≢true h.held.found)));
  bad = record { user = 1; present = record { listed = lit< tt; here = refl }; low = refl; goal = single_of pay; listed = first refl; holds = record { all = includes_within (single_of pay) _ refl } };
}
  where
    can_pay : CanAssign (joined alone L) 0 (giving empty_set pay) 1
    can_pay = record {
      actor_present = record { listed = lit< tt; here = refl };
      actor_holds = record { held = record { found = refl } };
      user_present = record { listed = lit< tt; here = refl };
      all = record { all = includes_within empty_set empty_set refl };
      none = record { none = share_none empty_set empty_set refl };
    }

-- everybody is high
AllHigh : State → Type 0
AllHigh σ = (user : ℕ) → user < length σ → (person σ user).clearance ≡ H

-- a step changes nobody's clearance
steps_high : (P : Policy) (σ τ : State) → AllHigh σ → Step P σ τ → AllHigh τ
unfolding AllHigh granted revoked with_role without_role
steps_high P σ τ high (Step.assign {user = user} listed can fresh) = everyone (λ (p : Person). p.clearance ≡ H) σ user high (high user can.user_present.listed)
steps_high P σ τ high (Step.revoke {user = user} listed can held) = everyone (λ (p : Person). p.clearance ≡ H) σ user high (high user can.user_present.listed)

-- While nobody joins no state is bad.
pub listed_safe : {τ : State} → Runs (Step paid) alone τ → Bad paid.goals τ → ⊥
unfolding AllHigh alone person
listed_safe {τ} run bad = true≢false (sym (runs_keep AllHigh (steps_high paid) first_high run bad.user bad.present.listed) ∙ bad.low)
  where
    first_high : AllHigh alone
    first_high zero here = refl
    first_high (suc user) here = absurd (omega (arith, here))

-- ---- who has left makes no step

-- nobody holds a role once ann has left
idle : (user : ℕ) → (person (departed staff 0) user).roles ≡ empty_set
unfolding staff person newcomer nobody departed leaver
idle zero = refl
idle (suc zero) = refl
idle (suc (suc user)) = refl

-- With ann there is a step, and none once she has left;
pub gives : Step loose staff (granted staff 1 pay)
unfolding loose staff person newcomer nobody bit has_role empty_set single_of union_of meet_of with_of same_set shares_role includes
gives = Step.assign {rule = giving empty_set pay} {actor = 0} {user = 1} (first refl) (record {
  actor_present = record { listed = lit< tt; here = refl };
  actor_holds = record { held = record { found = refl } };
  user_present = record { listed = lit< tt; here = refl };
  all = record { all = includes_within empty_set empty_set refl };
  none = record { none = share_none empty_set empty_set refl };
}) (λ h. false≢true h.held.found)

pub left_no_step : {τ : State} → Step loose (departed staff 0) τ → ⊥
left_no_step (Step.assign {rule = rule} {actor = actor} listed can fresh) = empty_none (subst (λ (s : RoleSet). rule.admin ∈ s) (idle actor) can.actor_holds.held)
left_no_step (Step.revoke {rule = rule} {actor = actor} listed can held) = empty_none (subst (λ (s : RoleSet). rule.admin ∈ s) (idle actor) can.actor_holds.held)

-- and once bob has left nobody gives him a role.
pub left_not_given : {actor : ℕ} {rule : Assign} → CanAssign (departed staff 1) actor rule 1 → ⊥
unfolding staff person departed leaver
left_not_given can = false≢true can.user_present.here
