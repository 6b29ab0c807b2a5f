-- The sum of two typings: its laws, and that it is accepted for two policies together (source 003, lemmas 5 to 7, theorem 5).
use Rattle.std.specs.Prelude.{ℕ, ◌||◌, ◌⊎◌, ◌≡◌}
use Rattle.std.proofs.Math.Bool.{true, false, or_comm, or_assoc, or_self}
use Rattle.std.proofs.lemmas.Bool.{false≢true}
use mathlib.Core.List.Memᴰ
use mathlib.Core.List.{List, Memᴰ as Listed}
use Rattle.std.proofs.Math.Logic.{inl, inr, ⊎_elim}
use Rattle.std.proofs.Math.Path.{refl}
use Rattle.std.proofs.Common.{sym, ap, ap₂, ◌∙◌}
use Rattle.roles.specs.declared.RoleSet.{RoleSet}
use Rattle.roles.specs.MemberLaws.{union_cases, union_left, union_comm, union_assoc, union_self}
use Rattle.model.specs.declared.Assign.{Assign}
use Rattle.model.specs.declared.Revoke.{Revoke}
use Rattle.model.specs.declared.Person.{Person}
use Rattle.model.specs.Policy.{Label, H, Policy, joint, State, Run, Bad}
use Rattle.model.specs.Typing.{Typing, Inconsistent, Closing, closure, UpTo, Clash, Suits, HeldFor, AbsentFor, AssignPasses, RevokePasses, WellTyped, GoalPasses, RulesPass, AcceptedBy, Accepted, sum, Compatible}
use Rattle.model.proofs.Closure.{Below, Grows, closure_grows, closure_truthful}
use Rattle.model.proofs.Safety.{accepted_by_safe}

-- ---- the same in either order and grouping, and adding a typing to itself changes nothing

pub sum_commutes : (Γ Δ : Typing) → sum Γ Δ ≡ sum Δ Γ
unfolding sum
sum_commutes Γ Δ = λ i. record {
  label = λ role. or_comm (Γ.label role) (Δ.label role) i;
  plus = λ role. union_comm (Γ.plus role) (Δ.plus role) i;
  minus = λ role. union_comm (Γ.minus role) (Δ.minus role) i;
}

pub sum_groups : (Γ Δ Θ : Typing) → sum (sum Γ Δ) Θ ≡ sum Γ (sum Δ Θ)
unfolding sum
sum_groups Γ Δ Θ = λ i. record {
  label = λ role. or_assoc (Γ.label role) (Δ.label role) (Θ.label role) i;
  plus = λ role. union_assoc (Γ.plus role) (Δ.plus role) (Θ.plus role) i;
  minus = λ role. union_assoc (Γ.minus role) (Δ.minus role) (Θ.minus role) i;
}

pub sum_repeats : (Γ : Typing) → sum Γ Γ ≡ Γ
unfolding sum
sum_repeats Γ = λ i. record {
  label = λ role. or_self (Γ.label role) i;
  plus = λ role. union_self (Γ.plus role) i;
  minus = λ role. union_self (Γ.minus role) i;
}

-- ---- each typing is below the sum

pub below-sum : (Γ Δ : Typing) → Below Γ (sum Γ Δ)
unfolding sum
below-sum Γ Δ = record {
  label = λ role. record { raised = λ high. ap (λ (l : Label). l || Δ.label role) high };
  plus = λ role. record { every = union_left (Δ.plus role) };
  minus = λ role. record { every = union_left (Δ.minus role) };
}

pub below_sum_right : (Γ Δ : Typing) → Below Δ (sum Γ Δ)
below_sum_right Γ Δ = rw (sum_commutes Γ Δ) (below-sum Δ Γ)

-- ---- what a larger typing keeps

inconsistent_up : {Γ Δ : Typing} {role : ℕ} → Below Γ Δ → Inconsistent Γ role → Inconsistent Δ role
inconsistent_up {role = role} up bad =
    let both = bad.shared in
    record { shared = record { role = both.role; first = (up.plus role).every both.first; second = (up.minus role).every both.second } }

module _ {C : Closing} (grows : Grows C) {Γ Δ : Typing} (up : Below Γ Δ) where
  clash_up : {s t : RoleSet} → Clash (C.held Γ s t) (C.absent Γ s t) → Clash (C.held Δ s t) (C.absent Δ s t)
  clash_up clash = record { role = clash.role; is_held = grows.held up clash.is_held; is_absent = grows.absent up clash.is_absent }

  pub goal_up : {goal : RoleSet} → GoalPasses C Γ goal → GoalPasses C Δ goal
  goal_up (GoalPasses.high {role = role} h high) = GoalPasses.high (grows.held up h) ((up.label role).raised high)
  goal_up (GoalPasses.never clash) = GoalPasses.never (clash_up clash)

-- A label that is H is reached by a held role labelled H.
record Top (Γ : Typing) (held : ℕ → Type 0) : Type 0 where
  role : ℕ
  is_held : held role
  high : Γ.label role ≡ H

top : {Γ : Typing} {held : ℕ → Type 0} {label : Label} → UpTo Γ held label → label ≡ H → Top Γ held
top (UpTo.lowest low) high = absurd (false≢true (sym low ∙ high))
top (UpTo.reached {role = role} h reach) high = record { role = role; is_held = h; high = reach.raised high }

-- ---- what passes under both typings passes under the sum

module _ {C : Closing} (grows : Grows C) (Γ Δ : Typing) where
  module _ (rule : Assign) (one : Suits Γ (HeldFor C Γ rule) (AbsentFor C Γ rule) rule.target) (two : Suits Δ (HeldFor C Δ rule) (AbsentFor C Δ rule) rule.target) where
    label_sum : UpTo (sum Γ Δ) (HeldFor C (sum Γ Δ) rule) ((sum Γ Δ).label rule.target)
    unfolding sum
    label_sum = go (Γ.label rule.target) (Δ.label rule.target) refl refl
      where
        first : Top Γ (HeldFor C Γ rule) → UpTo (sum Γ Δ) (HeldFor C (sum Γ Δ) rule) ((sum Γ Δ).label rule.target)
        first t = UpTo.reached (grows.held (below-sum Γ Δ) t.is_held) (record { raised = λ _. ((below-sum Γ Δ).label t.role).raised t.high })

        second : Top Δ (HeldFor C Δ rule) → UpTo (sum Γ Δ) (HeldFor C (sum Γ Δ) rule) ((sum Γ Δ).label rule.target)
        second t = UpTo.reached (grows.held (below_sum_right Γ Δ) t.is_held) (record { raised = λ _. ((below_sum_right Γ Δ).label t.role).raised t.high })

        go : (l m : Label) → Γ.label rule.target ≡ l → Δ.label rule.target ≡ m → UpTo (sum Γ Δ) (HeldFor C (sum Γ Δ) rule) ((sum Γ Δ).label rule.target)
        go true m e f = first (top one.label e)
        go false true e f = second (top two.label f)
        go false false e f = UpTo.lowest (ap₂ ◌||◌ e f)

    suits_sum : Suits (sum Γ Δ) (HeldFor C (sum Γ Δ) rule) (AbsentFor C (sum Γ Δ) rule) rule.target
    unfolding sum
    suits_sum = record {
      label = label_sum;
      unopposed = λ {role} m.
          ⊎_elim (λ l. grows.absent (below-sum Γ Δ) (one.unopposed l)) (λ r. grows.absent (below_sum_right Γ Δ) (two.unopposed r)) (union_cases (Γ.minus role) (Δ.minus role) m);
      minus = λ {role} m.
          ⊎_elim (λ l. (grows.absent (below-sum Γ Δ) (one.minus l).0, (one.minus l).1))
          (λ r. (grows.absent (below_sum_right Γ Δ) (two.minus r).0, (two.minus r).1)) (union_cases (Γ.minus rule.target) (Δ.minus rule.target) m);
      plus = λ {role} m.
          ⊎_elim (λ l. ⊎_elim (λ h. inl (grows.held (below-sum Γ Δ) h)) inr (one.plus l))
          (λ r. ⊎_elim (λ h. inl (grows.held (below_sum_right Γ Δ) h)) inr (two.plus r)) (union_cases (Γ.plus rule.target) (Δ.plus rule.target) m);
    }

  assign_sum : {rule : Assign} → AssignPasses C Γ rule → AssignPasses C Δ rule → AssignPasses C (sum Γ Δ) rule
  assign_sum (AssignPasses.no_actor bad) two = AssignPasses.no_actor (inconsistent_up (below-sum Γ Δ) bad)
  assign_sum (AssignPasses.no_user clash) two = AssignPasses.no_user (clash_up grows (below-sum Γ Δ) clash)
  assign_sum (AssignPasses.suits one) (AssignPasses.no_actor bad) = AssignPasses.no_actor (inconsistent_up (below_sum_right Γ Δ) bad)
  assign_sum (AssignPasses.suits one) (AssignPasses.no_user clash) = AssignPasses.no_user (clash_up grows (below_sum_right Γ Δ) clash)
  assign_sum {rule} (AssignPasses.suits one) (AssignPasses.suits two) = AssignPasses.suits (suits_sum rule one two)

  revoke_sum : {rule : Revoke} → RevokePasses Γ rule → RevokePasses Δ rule → RevokePasses (sum Γ Δ) rule
  unfolding sum
  revoke_sum (RevokePasses.no_actor bad) two = RevokePasses.no_actor (inconsistent_up (below-sum Γ Δ) bad)
  revoke_sum (RevokePasses.unneeded one) (RevokePasses.no_actor bad) = RevokePasses.no_actor (inconsistent_up (below_sum_right Γ Δ) bad)
  revoke_sum (RevokePasses.unneeded one) (RevokePasses.unneeded two) =
      RevokePasses.unneeded (λ role m. ⊎_elim (one role) (two role) (union_cases (Γ.plus role) (Δ.plus role) m))

  typed_sum : {p : Person} → WellTyped Γ p → WellTyped Δ p → WellTyped (sum Γ Δ) p
  unfolding sum
  typed_sum {p} one two = record {
    label = λ {role} h. record { raised = λ high. ⊎_elim (one.label h).raised (two.label h).raised (either (Γ.label role) (Δ.label role) high) };
    minus = λ {role} h shared.
        ⊎_elim (λ l. one.minus h (record { role = shared.role; first = l; second = shared.second }))
        (λ r. two.minus h (record { role = shared.role; first = r; second = shared.second })) (union_cases (Γ.minus role) (Δ.minus role) shared.first);
    plus = λ {role} h. record { every = λ m. ⊎_elim (one.plus h).every (two.plus h).every (union_cases (Γ.plus role) (Δ.plus role) m) };
  }
    where
      either : (l m : Label) → (l || m) ≡ H → (l ≡ H) ⊎ (m ≡ H)
      either true m e = inl refl
      either false m e = inr e

  -- Lemma 5: rules that pass under both typings pass under the sum.
  rules_sum : {P : Policy} → RulesPass C Γ P → RulesPass C Δ P → RulesPass C (sum Γ Δ) P
  rules_sum one two = record {
    assigns = λ listed. assign_sum (one.assigns listed) (two.assigns listed);
    revokes = λ listed. revoke_sum (one.revokes listed) (two.revokes listed);
  }

-- Rules that pass for each policy pass for both together.
rules-joint : {C : Closing} {Γ : Typing} (P Q : Policy) → RulesPass C Γ P → RulesPass C Γ Q → RulesPass C Γ (joint P Q)
unfolding joint
rules-joint P Q one two = record {
  assigns = λ listed. ⊎_elim one.assigns two.assigns (Memᴰ.append_cases P.assigns listed);
  revokes = λ listed. ⊎_elim one.revokes two.revokes (Memᴰ.append_cases P.revokes listed);
}

pub sum_accepted_by : {C : Closing} {Γ Δ : Typing} {P Q : Policy} {σ : State} → Grows C → Compatible C Γ Δ P Q σ → AcceptedBy C (sum Γ Δ) (joint P Q) σ
unfolding joint
sum_accepted_by {C} {Γ} {Δ} {P} {Q} grows both = record {
  holdings = record { user = λ here. typed_sum grows Γ Δ (both.one.holdings.user here) (both.two.holdings.user here) };
  rules = rules-joint P Q (rules_sum grows Γ Δ both.one.rules both.two_on_one) (rules_sum grows Γ Δ both.one_on_two both.two.rules);
  goals = λ listed.
      ⊎_elim (λ l. goal_up grows (below-sum Γ Δ) (both.one.goals l)) (λ r. goal_up grows (below_sum_right Γ Δ) (both.two.goals r)) (Memᴰ.append_cases P.goals listed);
}

-- The sum of the typings is accepted for everything together.
pub sum_accepted : {Γ Δ : Typing} {P Q : Policy} {σ : State} → Compatible closure Γ Δ P Q σ → Accepted (sum Γ Δ) (joint P Q) σ
sum_accepted both = sum_accepted_by closure_grows both

-- A state that is bad for some goals is bad for more.
bad_more : {goals more : List RoleSet} {σ : State} → ((goal : RoleSet) → Listed goal goals → Listed goal more) → Bad goals σ → Bad more σ
bad_more grow bad = record { user = bad.user; present = bad.present; low = bad.low; goal = bad.goal; listed = grow bad.goal bad.listed; holds = bad.holds }

-- So no run mixing both rule sets reaches any goal of either.
pub merge_safe : {Γ Δ : Typing} {P Q : Policy} {σ τ : State} → Compatible closure Γ Δ P Q σ → Run (joint P Q) σ τ → Bad P.goals τ ⊎ Bad Q.goals τ → ⊥
unfolding joint
merge_safe {P = P} {Q = Q} both run bad =
    accepted_by_safe closure_truthful (sum_accepted both) run
    (⊎_elim (bad_more (λ goal. Memᴰ.append_left Q.goals)) (bad_more (λ goal. Memᴰ.append_right P.goals)) bad)
