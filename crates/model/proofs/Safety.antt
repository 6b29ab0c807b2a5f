-- An accepted typing is safe: no run, however long, reaches a bad state (source 003, theorems 1 and 2).
use Rattle.std.specs.Prelude.{ℕ, ◌⊎◌, ◌≡◌, refl, set}
use Rattle.std.proofs.lemmas.Bool.{false≢true}
use Rattle.std.proofs.Common.{inl, inr, sym, ◌∙◌}
use Rattle.std.proofs.Math.Logic.{⊎_elim}
use Rattle.std.proofs.Math.Path.{subst}
use Rattle.roles.specs.declared.RoleSet.{RoleSet}
use Rattle.roles.specs.Sets.{empty_set, with_of, without_of}
use Rattle.roles.specs.Members.{◌∈◌, Share, Within}
use Rattle.roles.specs.MemberLaws.{below, empty_none, with_cases, with_old, with_new_lem, without_old, without_gone, without_other}
use Rattle.model.specs.declared.Assign.{Assign}
use Rattle.model.specs.declared.Revoke.{Revoke}
use Rattle.model.specs.declared.Person.{Person}
use Rattle.model.specs.Policy.{Label, L, ◌⊑◌, Policy, State, newcomer, person, Holds, CanAssign, CanRevoke, with_role, without_role, granted, revoked, Step, leaver, joined, departed, Move, Run, Bad}
use Rattle.model.specs.Typing.{Typing, Inconsistent, Held, Absent, Closing, closure, UpTo, Suits, HeldFor, AbsentFor, AssignPasses, RevokePasses, WellTyped, HoldingsPass, GoalPasses, RulesPass, AcceptedBy, Accepted}
use Rattle.model.proofs.Closure.{Truthful, closure_truthful}
use Rattle.model.proofs.States.{everyone, everyone-joined, runs_keep}

-- Nobody who is well typed holds an inconsistent role (source 003, lemma 10).
holder_consistent : {Γ : Typing} {p : Person} {role : ℕ} → WellTyped Γ p → role ∈ p.roles → Inconsistent Γ role → ⊥
holder_consistent typed holds bad =
    let both = bad.shared in
    typed.minus holds (record { role = both.role; first = both.second; second = (typed.plus holds).every both.first })

-- Where the target suits, and what the closing says is true of the person, the person with the target is well typed.
module _ {Γ : Typing} {p : Person} {held absent : ℕ → Type 0} {target : ℕ} (typed : WellTyped Γ p)
    (truly_held : (role : ℕ) → held role → role ∈ p.roles) (truly_absent : (role : ℕ) → absent role → role ∈ p.roles → ⊥) (fits : Suits Γ held absent target) where
  label_kept : UpTo Γ held (Γ.label target) → Γ.label target ⊑ p.clearance
  label_kept (UpTo.lowest low) = record { raised = λ high. absurd (false≢true (sym low ∙ high)) }
  label_kept (UpTo.reached {role = role} h up) = record { raised = λ high. (typed.label (truly_held role h)).raised (up.raised high) }

  -- a role in the new minus set of a role that was held, or of the target, is not held afterwards
  minus_kept : {role other : ℕ} → (role ∈ p.roles) ⊎ (role ≡ target) → other ∈ Γ.minus role → (other ∈ p.roles) ⊎ (other ≡ target) → ⊥
  minus_kept {role} {other} (inl old) m (inl held-other) = typed.minus old (record { role = other; first = m; second = held-other })
  minus_kept {role} (inl old) m (inr same) = truly_absent role (fits.unopposed (subst (λ (r : ℕ). r ∈ Γ.minus role) same m)) old
  minus_kept {role} {other} (inr same) m (inl held-other) = truly_absent other (fits.minus (subst (λ (r : ℕ). other ∈ Γ.minus r) same m)).0 held-other
  minus_kept {role} {other} (inr same) m (inr same-other) = (fits.minus (subst (λ (r : ℕ). other ∈ Γ.minus r) same m)).1 same-other

  plus_kept : {role other : ℕ} → role ∈ with_of p.roles target → (role ∈ p.roles) ⊎ (role ≡ target) → other ∈ Γ.plus role → other ∈ with_of p.roles target
  plus_kept now (inl old) m = with_old target ((typed.plus old).every m)
  plus_kept {role} {other} now (inr same) m = go (fits.plus (subst (λ (r : ℕ). other ∈ Γ.plus r) same m))
    where
      go : held other ⊎ (other ≡ target) → other ∈ with_of p.roles target
      go (inl h) = with_old target (truly_held other h)
      go (inr same-other) = subst (λ (r : ℕ). r ∈ with_of p.roles target) (same ∙ sym same-other) now

  grant_typed : WellTyped Γ (with_role p target)
  unfolding with_role
  grant_typed = record {
    label = λ {role} now. ⊎_elim typed.label (λ same. subst (λ (r : ℕ). Γ.label r ⊑ p.clearance) (sym same) (label_kept fits.label)) (with_cases p.roles target now);
    minus = λ {role} now shared. minus_kept (with_cases p.roles target now) shared.first (with_cases p.roles target shared.second);
    plus = λ {role} now. record { every = plus_kept now (with_cases p.roles target now) };
  }

-- A role that no other role needs can be taken away.
revoke_typed : {Γ : Typing} {p : Person} {target : ℕ} → WellTyped Γ p → ((role : ℕ) → target ∈ Γ.plus role → role ≡ target) → WellTyped Γ (without_role p target)
unfolding without_role
revoke_typed {Γ} {p} {target} typed unneeded = record {
  label = λ now. typed.label (without_old p.roles target now);
  minus = λ now shared.
      typed.minus (without_old p.roles target now)
      (record { role = shared.role; first = shared.first; second = without_old p.roles target shared.second });
  plus = λ {role} now. record {
    every = λ m.
        without_other target ((typed.plus (without_old p.roles target now)).every m)
        (λ same. without_gone p.roles target (subst (λ (r : ℕ). r ∈ without_of p.roles target) (unneeded role (subst (λ (r : ℕ). r ∈ Γ.plus role) same m)) now));
  };
}

-- Who holds nothing is well typed.
idle_typed : {Γ : Typing} {p : Person} → p.roles ≡ empty_set → WellTyped Γ p
idle_typed {p = p} idle = record { label = λ m. absurd (none m); minus = λ m. absurd (none m); plus = λ m. absurd (none m) }
  where
    none : {role : ℕ} → role ∈ p.roles → ⊥
    none {role} m = empty_none (subst (λ (s : RoleSet). role ∈ s) idle m)

-- Subject reduction: each move in a directory with a policy whose rules pass keeps the holdings well typed, with any truthful closing.
module _ {C : Closing} (truthful : Truthful C) {Γ : Typing} where
  -- the one person whom a step changes stays well typed
  assign_keeps : {σ : State} {actor user : ℕ} {rule : Assign} → AssignPasses C Γ rule → HoldingsPass Γ σ → CanAssign σ actor rule user → (Holds σ user rule.target → ⊥) → WellTyped Γ (with_role (person σ user) rule.target)
  assign_keeps {σ} {actor} {user} {rule} passes typed can fresh = go passes
    where
      self : WellTyped Γ (person σ user)
      self = typed.user can.user_present.listed

      lacks : Share (with_of rule.negative rule.target) (person σ user).roles → ⊥
      lacks shared =
          ⊎_elim (λ m. can.none.none (record { role = shared.role; first = m; second = shared.second }))
          (λ same. fresh (record { held = subst (λ (r : ℕ). r ∈ (person σ user).roles) same shared.second })) (with_cases rule.negative rule.target shared.first)

      truly_held : (role : ℕ) → HeldFor C Γ rule role → role ∈ (person σ user).roles
      truly_held role h = truthful.held self can.all.all lacks h

      truly_absent : (role : ℕ) → AbsentFor C Γ rule role → role ∈ (person σ user).roles → ⊥
      truly_absent role h = truthful.absent self can.all.all lacks h

      go : AssignPasses C Γ rule → WellTyped Γ (with_role (person σ user) rule.target)
      go (AssignPasses.no_actor bad) = absurd (holder_consistent (typed.user can.actor_present.listed) can.actor_holds.held bad)
      go (AssignPasses.no_user clash) = absurd (truly_absent clash.role clash.is_absent (truly_held clash.role clash.is_held))
      go (AssignPasses.suits fits) = grant_typed self truly_held truly_absent fits

  revoke_keeps : {σ : State} {actor user : ℕ} {rule : Revoke} → RevokePasses Γ rule → HoldingsPass Γ σ → CanRevoke σ actor rule user → WellTyped Γ (without_role (person σ user) rule.target)
  revoke_keeps (RevokePasses.no_actor bad) typed can = absurd (holder_consistent (typed.user can.actor_present.listed) can.actor_holds.held bad)
  revoke_keeps (RevokePasses.unneeded free) typed can = revoke_typed (typed.user can.user_present.listed) free

  -- and so does everyone
  kept : {σ : State} (user : ℕ) {p : Person} → HoldingsPass Γ σ → WellTyped Γ p → HoldingsPass Γ (set σ user p)
  kept {σ} user typed new = record { user = λ {user = other} there. everyone (WellTyped Γ) σ user (λ u here. typed.user here) new other there }

  -- with who joins and who leaves, who hold nothing
  joining_keeps : {σ : State} (clearance : Label) → HoldingsPass Γ σ → HoldingsPass Γ (joined σ clearance)
  unfolding newcomer
  joining_keeps {σ} clearance typed = record { user = λ {user = other} there. everyone-joined (WellTyped Γ) σ clearance (λ u here. typed.user here) (idle_typed refl) other there }

  leaving_keeps : {σ : State} (user : ℕ) → HoldingsPass Γ σ → HoldingsPass Γ (departed σ user)
  unfolding departed leaver
  leaving_keeps user typed = kept user typed (idle_typed refl)

  step_keeps : {P : Policy} {σ τ : State} → RulesPass C Γ P → HoldingsPass Γ σ → Step P σ τ → HoldingsPass Γ τ
  unfolding granted revoked
  step_keeps rules typed (Step.assign {user = user} listed can fresh) = kept user typed (assign_keeps (rules.assigns listed) typed can fresh)
  step_keeps rules typed (Step.revoke {user = user} listed can held) = kept user typed (revoke_keeps (rules.revokes listed) typed can)

  move_keeps : {P : Policy} {σ τ : State} → RulesPass C Γ P → HoldingsPass Γ σ → Move P σ τ → HoldingsPass Γ τ
  move_keeps rules typed (Move.step step) = step_keeps rules typed step
  move_keeps rules typed (Move.join clearance) = joining_keeps clearance typed
  move_keeps rules typed (Move.leave {user = user} here) = leaving_keeps user typed

  pub run_keeps : {P : Policy} {σ τ : State} → RulesPass C Γ P → HoldingsPass Γ σ → Run P σ τ → HoldingsPass Γ τ
  run_keeps rules typed run = runs_keep (HoldingsPass Γ) (λ σ τ. move_keeps rules) typed run

  -- A goal that passes is held whole by no well-typed L person.
  goal_safe : {p : Person} {goal : RoleSet} → GoalPasses C Γ goal → WellTyped Γ p → p.clearance ≡ L → Within goal p.roles → ⊥
  goal_safe {p} (GoalPasses.high h high) typed low holds = false≢true (sym low ∙ (typed.label (truthful.held typed holds (λ shared. empty_none shared.first) h)).raised high)
  goal_safe {p} (GoalPasses.never clash) typed low holds =
      truthful.absent typed holds (λ shared. empty_none shared.first) clash.is_absent (truthful.held typed holds (λ shared. empty_none shared.first) clash.is_held)

  pub accepted_by_safe : {P : Policy} {σ τ : State} → AcceptedBy C Γ P σ → Run P σ τ → Bad P.goals τ → ⊥
  accepted_by_safe accepted run bad =
      let typed = run_keeps accepted.rules accepted.holdings run in
      goal_safe (accepted.goals bad.listed) (typed.user bad.present.listed) bad.low bad.holds.all

-- An accepted typing: no run from the initial holdings reaches a bad state.
pub accepted_safe : {Γ : Typing} {P : Policy} {σ τ : State} → Accepted Γ P σ → Run P σ τ → Bad P.goals τ → ⊥
accepted_safe accepted run bad = accepted_by_safe closure_truthful accepted run bad

-- A run of the policy that ends in a bad state.
pub record Attack (P : Policy) (σ : State) : Type 0 where
  pub last : State
  pub run : Run P σ last
  pub bad : Bad P.goals last

-- No policy has an accepted typing and a run to a bad state.
pub never_both : {Γ : Typing} {P : Policy} {σ : State} → Accepted Γ P σ → Attack P σ → ⊥
never_both accepted attack = accepted_safe accepted attack.run attack.bad

-- P11: an assign rule with its target in its own positive set passes every typing.
pub own_target_passes : (Γ : Typing) (rule : Assign) → rule.target ∈ rule.positive → AssignPasses closure Γ rule
unfolding closure
own_target_passes Γ rule m = AssignPasses.no_user (record { role = rule.target; is_held = Held.start m; is_absent = Absent.start (with_new_lem rule.negative (below m)) })
