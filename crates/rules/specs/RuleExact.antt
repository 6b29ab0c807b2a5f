-- Each rule's test is true exactly when the rule, as document 01 words it, holds of the typing that the arrays mean.
use Rattle.std.specs.Prelude.{ℕ, ◌≤◌, ◌<◌, min, Bool, true, false, not, ◌↔◌, ◌⊎◌, ◌≡◌, refl}
use Rattle.std.proofs.lemmas.Bool.{false≢true}
use Rattle.std.proofs.Math.Logic.{inl, inr, ⊎_elim}
use Rattle.std.proofs.Common.{sym, ◌∙◌, arith}
use Rattle.std.proofs.Math.Decide.{dec_lt}
use Rattle.roles.specs.declared.RoleSet.{RoleSet}
use Rattle.roles.specs.Sets.{empty_set, has_role, single_of, with_of, without_of, shares_role, includes}
use Rattle.roles.specs.Members.{◌∈◌, Share, Within, Sized}
use Rattle.roles.specs.MemberLaws.{below, absent_test, empty_sized, single_own, single_only, with_cases, with_old, with_new_lem, without_old, without_gone, without_other, with_sized}
use Rattle.roles.specs.Joined.{either_exact, both_exact, not_exact, share_exact, within_exact}
use Rattle.model.specs.declared.Typing.{Typing as Table}
use Rattle.model.specs.declared.Assign.{Assign}
use Rattle.model.specs.declared.Revoke.{Revoke}
use Rattle.model.specs.declared.Person.{Person}
use Rattle.model.specs.Policy.{L, H, ◌⊑◌}
use Rattle.model.specs.Sized.{SizedRule}
use Rattle.model.specs.Typing.{Typing, Inconsistent, Held, Absent, closure, UpTo, Clash, Suits, HeldFor, AbsentFor, AssignPasses, RevokePasses, WellTyped, GoalPasses}
use Rattle.model.specs.Meaning.{meaning}
use Rattle.sheets.specs.Turned.{sets_of, turned_of}
use Rattle.sheets.specs.Members.{below_exact, sets_exact, sets_sized}
use Rattle.closing.specs.declared.Pair.{Pair}
use Rattle.closing.specs.Rounds.{close_of}
use Rattle.closing.specs.Clauses.{SizedPair, Fits, own_plus, own_minus, needed_exact, needed_sized, opposed_exact, opposed_sized, high_sized}
use Rattle.closing.specs.Least.{close_held, close_absent}
use Rattle.closing.specs.Tests.{clash_test}
use Rattle.rules.specs.Tests.{implies, inconsistent_role, person_passes, holds_high, unopposed_target, unneeded_target, target_suits, assign_passes, revoke_passes, goal_passes}

-- A typing that fits its roles, with the label L past them. A set may name a role past them: nothing is then asked of it.
pub record Laid (t : Table) (roles : ℕ) : Type 0 where
  pub fits : Fits t roles
  pub low_past : (role : ℕ) → roles ≤ role → (meaning t).label role ≡ L

-- where the first holds, the second does
implies_exact : (a b : Bool) → implies a b ≡ true ↔ (a ≡ true → b ≡ true)
unfolding implies
implies_exact true b = (λ e h. e, λ f. f refl)
implies_exact false b = (λ e h. absurd (false≢true h), λ f. refl)

-- ---- what the rules ask of all roles

module _ {t : Table} {roles : ℕ} (fits : Fits t roles) where
  -- a role's two sets share a role
  pub inconsistent_exact : (role : ℕ) → inconsistent_role (turned_of t roles) role ≡ true ↔ Inconsistent (meaning t) role
  unfolding inconsistent_role
  inconsistent_exact role =
      let shared = share_exact ((meaning t).minus role) (fits.sized.plus role) in
      rw (own_plus fits role, own_minus fits role) (λ test. record { shared = shared.0 test }, λ bad. shared.1 bad.shared)

  -- no role outside absent has the target in its minus set
  pub unopposed_exact : (target : ℕ) (absent : RoleSet) → unopposed_target (turned_of t roles) target absent ≡ true ↔ ((role : ℕ) → target ∈ (meaning t).minus role → role ∈ absent)
  unfolding unopposed_target
  unopposed_exact target absent =
      let inside = within_exact absent (opposed_sized t roles target) in (
        λ test role m. (inside.0 test).every ((opposed_exact fits target role).1 m),
        λ all. inside.1 (record { every = λ {role} m. all role ((opposed_exact fits target role).0 m) }),
      )

  -- no role other than the target has the target in its plus set
  pub unneeded_exact : (target : ℕ) → unneeded_target (turned_of t roles) target ≡ true ↔ ((role : ℕ) → target ∈ (meaning t).plus role → role ≡ target)
  unfolding unneeded_target
  unneeded_exact target =
      let inside = within_exact (single_of target) (needed_sized t roles target) in (
        λ test role m. single_only ((inside.0 test).every ((needed_exact fits target role).1 m)),
        λ all. inside.1 (record { every = λ {role} m. let named = (needed_exact fits target role).0 m in rw (all role named) (single_own (below named)) }),
      )

-- A held role is labelled H.
pub record HeldHigh (Γ : Typing) (held : ℕ → Type 0) : Type 0 where
  pub role : ℕ
  pub is_held : held role
  pub is_high_lem : Γ.label role ≡ H

module _ {t : Table} {roles : ℕ} (laid : Laid t roles) where
  -- a role labelled H is one of the first roles
  high_below : (role : ℕ) → (meaning t).label role ≡ H → role < min roles 128
  high_below role high = go (dec_lt role roles)
    where
      go : Dec (role < roles) → role < min roles 128
      go (yes lt) = omega (arith, laid.fits.limit)
      go (no ge) = absurd (false≢true (sym (laid.low_past role (omega arith)) ∙ high))

  -- the roles labelled H
  labelled_exact : (role : ℕ) → role ∈ (turned_of t roles).high ↔ ((meaning t).label role ≡ H)
  unfolding turned_of
  labelled_exact role =
      let among = below_exact (min roles 128) (omega arith) (meaning t).label role in
      (λ m. (among.0 m).1, λ high. among.1 (high_below role high, high))

  -- a role's label
  label_found : (role : ℕ) → has_role (turned_of t roles).high role ≡ (meaning t).label role
  label_found role = go ((meaning t).label role) refl
    where
      go : (b : Bool) → (meaning t).label role ≡ b → has_role (turned_of t roles).high role ≡ b
      go true e = ((labelled_exact role).1 e).found
      go false e = absent_test (λ m. false≢true (sym e ∙ (labelled_exact role).0 m))

  -- a role of the set is labelled H
  pub high_exact : (s : RoleSet) → holds_high (turned_of t roles) s ≡ true ↔ HeldHigh (meaning t) (λ role. role ∈ s)
  unfolding holds_high
  high_exact s =
      let shared = share_exact s (high_sized t roles) in (
        λ test. let found = shared.0 test in record { role = found.role; is_held = found.second; is_high_lem = (labelled_exact found.role).0 found.first },
        λ high. shared.1 (record { role = high.role; first = (labelled_exact high.role).1 high.is_high_lem; second = high.is_held }),
      )

  -- a label is at most the highest label among the roles of a set
  pub up_to_exact : (label : Bool) (s : RoleSet) → implies label (holds_high (turned_of t roles) s) ≡ true ↔ UpTo (meaning t) (λ role. role ∈ s) label
  up_to_exact label s = (told label, tests)
    where
      told : (b : Bool) → implies b (holds_high (turned_of t roles) s) ≡ true → UpTo (meaning t) (λ role. role ∈ s) b
      told true test =
          let high = (high_exact s).0 ((implies_exact true (holds_high (turned_of t roles) s)).0 test refl) in
          UpTo.reached {role = high.role} high.is_held (record { raised = λ e. high.is_high_lem })
      told false test = UpTo.lowest refl

      tests : UpTo (meaning t) (λ role. role ∈ s) label → implies label (holds_high (turned_of t roles) s) ≡ true
      tests (UpTo.lowest low) = (implies_exact label (holds_high (turned_of t roles) s)).1 (λ e. absurd (false≢true (sym low ∙ e)))
      tests (UpTo.reached {role = role} held up) =
          (implies_exact label (holds_high (turned_of t roles) s)).1 (λ e. (high_exact s).1 (record { role = role; is_held = held; is_high_lem = up.raised e }))

  -- ---- the holdings

  -- the highest label of the roles held is at most the clearance
  labels_exact : (p : Person) → implies (holds_high (turned_of t roles) p.roles) p.clearance ≡ true ↔ ((role : ℕ) → role ∈ p.roles → (meaning t).label role ⊑ p.clearance)
  labels_exact p =
      let test = implies_exact (holds_high (turned_of t roles) p.roles) p.clearance in (
        λ e role m. record { raised = λ high. test.0 e ((high_exact p.roles).1 (record { role = role; is_held = m; is_high_lem = high })) },
        λ all. test.1 (λ e. let high = (high_exact p.roles).0 e in (all high.role high.is_held).raised high.is_high_lem),
      )

  -- the minus sets of the roles held share nothing with them
  minuses_exact : (p : Person) → not (shares_role (sets_of (turned_of t roles).minus p.roles) p.roles) ≡ true ↔ ((role : ℕ) → role ∈ p.roles → Share ((meaning t).minus role) p.roles → ⊥)
  minuses_exact p =
      let none = not_exact _ (share_exact p.roles (sets_sized (turned_of t roles).minus (λ role. rw (own_minus laid.fits role) (laid.fits.sized.minus role)) p.roles)) in (
        λ e role m shared. none.0 e (record {
          role = shared.role;
          first = (sets_exact (turned_of t roles).minus p.roles shared.role).1 (record { member = role; is_member = m; brings = rw (own_minus laid.fits role) shared.first });
          second = shared.second;
        }),
        λ all. none.1 (λ shared.
            let from = (sets_exact (turned_of t roles).minus p.roles shared.role).0 shared.first in
            all from.member from.is_member (record { role = shared.role; first = rw (own_minus laid.fits from.member) at from.brings; second = shared.second })),
      )

  -- their plus sets lie within them
  pluses_exact : (p : Person) → includes p.roles (sets_of (turned_of t roles).plus p.roles) ≡ true ↔ ((role : ℕ) → role ∈ p.roles → Within ((meaning t).plus role) p.roles)
  pluses_exact p =
      let inside = within_exact p.roles (sets_sized (turned_of t roles).plus (λ role. rw (own_plus laid.fits role) (laid.fits.sized.plus role)) p.roles) in (
        λ e role m. record {
          every = λ {role = other} named.
              (inside.0 e).every
              ((sets_exact (turned_of t roles).plus p.roles other).1 (record { member = role; is_member = m; brings = rw (own_plus laid.fits role) named }));
        },
        λ all. inside.1 (record {
          every = λ {role = other} m.
              let from = (sets_exact (turned_of t roles).plus p.roles other).0 m in
              (all from.member from.is_member).every (rw (own_plus laid.fits from.member) at from.brings);
        }),
      )

  -- A person's holdings pass exactly when the person is well typed.
  pub person_exact : (p : Person) → person_passes (turned_of t roles) p ≡ true ↔ WellTyped (meaning t) p
  unfolding person_passes
  person_exact p =
      let three = both_exact _ _ (both_exact _ _ (labels_exact p) (minuses_exact p)) (pluses_exact p) in (
        λ test. record {
          label = λ {role} m. (three.0 test).0.0 role m;
          minus = λ {role} m. (three.0 test).0.1 role m;
          plus = λ {role} m. (three.0 test).1 role m;
        },
        λ well. three.1 ((λ role m. well.label m, λ role m. well.minus m), λ role m. well.plus m),
      )

-- ---- assign rules

-- What suits for some roles held and absent suits where more are.
pub suits_more : {Γ : Typing} {target : ℕ} {held absent held' absent' : ℕ → Type 0} → ((role : ℕ) → held role → held' role) → ((role : ℕ) → absent role → absent' role) → Suits Γ held absent target → Suits Γ held' absent' target
suits_more {Γ} {target} {held} {absent} {held'} {absent'} more-held more-absent suits = record {
  label = up_to suits.label;
  unopposed = λ {role} m. more-absent role (suits.unopposed m);
  minus = λ {role} m. (more-absent role (suits.minus m).0, (suits.minus m).1);
  plus = λ {role} m. ⊎_elim (λ h. inl (more-held role h)) inr (suits.plus m);
}
  where
    up_to : UpTo Γ held (Γ.label target) → UpTo Γ held' (Γ.label target)
    up_to (UpTo.lowest low) = UpTo.lowest low
    up_to (UpTo.reached {role = role} h up) = UpTo.reached (more-held role h) up

module _ {t : Table} {roles : ℕ} (laid : Laid t roles) where
  -- the target's minus set lies within absent without the target
  minus_exact : (target : ℕ) (absent : RoleSet) → includes (without_of absent target) ((meaning t).minus target) ≡ true ↔ ((role : ℕ) → role ∈ (meaning t).minus target → (role ∈ absent) × (role ≡ target → ⊥))
  minus_exact target absent =
      let inside = within_exact (without_of absent target) (laid.fits.sized.minus target) in (
        λ test role m.
            let here = (inside.0 test).every m in
            (without_old absent target here, λ same. without_gone absent target (rw same at here)),
        λ all. inside.1 (record { every = λ {role} m. without_other target (all role m).0 (all role m).1 }),
      )

  -- its plus set lies within held with the target added
  plus_exact : (target : ℕ) (held : RoleSet) → includes (with_of held target) ((meaning t).plus target) ≡ true ↔ ((role : ℕ) → role ∈ (meaning t).plus target → (role ∈ held) ⊎ (role ≡ target))
  plus_exact target held =
      let inside = within_exact (with_of held target) (laid.fits.sized.plus target) in (
        λ test role m. with_cases held target ((inside.0 test).every m),
        λ all. inside.1 (record { every = λ {role} m. ⊎_elim (with_old target) (λ same. rw same (with_new_lem held (rw same at (below m)))) (all role m) }),
      )

  -- the target suits what is held and what is absent in a pair of sets
  pub target_exact : (pair : Pair) (target : ℕ) → target_suits (turned_of t roles) pair target ≡ true ↔ Suits (meaning t) (λ role. role ∈ pair.held) (λ role. role ∈ pair.absent) target
  unfolding target_suits
  target_exact pair target =
      let label_free = both_exact _ _ (up_to_exact laid ((meaning t).label target) pair.held) (unopposed_exact laid.fits target pair.absent) in
      let four = both_exact _ _ (both_exact _ _ label_free (minus_exact target pair.absent)) (plus_exact target pair.held) in
      rw (label_found laid target, own_minus laid.fits target, own_plus laid.fits target) (
        λ test. record {
          label = (four.0 test).0.0.0;
          unopposed = λ {role}. (four.0 test).0.0.1 role;
          minus = λ {role}. (four.0 test).0.1 role;
          plus = λ {role}. (four.0 test).1 role;
        },
        λ suits. four.1 (((suits.label, λ role. suits.unopposed), λ role. suits.minus), λ role. suits.plus),
      )

  -- the target suits the least pair, tested on the closure by rounds
  pub closed_target_exact : {p : Pair} → SizedPair p → (target : ℕ) → target_suits (turned_of t roles) (close_of (turned_of t roles) p) target ≡ true ↔ Suits (meaning t) (Held (meaning t) p.held) (Absent (meaning t) p.held p.absent) target
  closed_target_exact {p} sized target = (
    λ test. suits_more (λ role. (close_held laid.fits sized role).0) (λ role. (close_absent laid.fits sized role).0) ((target_exact (close_of (turned_of t roles) p) target).0 test),
    λ suits. (target_exact (close_of (turned_of t roles) p) target).1 (suits_more (λ role. (close_held laid.fits sized role).1) (λ role. (close_absent laid.fits sized role).1) suits),
  )

  -- An assign rule passes the test exactly when it passes.
  pub assign_exact : (rule : Assign) → SizedRule rule → assign_passes (turned_of t roles) rule ≡ true ↔ AssignPasses closure (meaning t) rule
  unfolding assign_passes closure
  assign_exact rule sized =
      let start : SizedPair (record { held = rule.positive; absent = with_of rule.negative rule.target }) = record { held = sized.positive; absent = with_sized rule.target sized.negative } in
      let three = either_exact _ _ (either_exact _ _ (inconsistent_exact laid.fits rule.admin) (clash_test laid.fits start)) (closed_target_exact start rule.target) in
      (λ test. ⊎_elim (⊎_elim AssignPasses.no_actor AssignPasses.no_user) AssignPasses.suits (three.0 test), λ passes. three.1 (cases passes))
    where
      cases : AssignPasses closure (meaning t) rule → (Inconsistent (meaning t) rule.admin ⊎ Clash (HeldFor closure (meaning t) rule) (AbsentFor closure (meaning t) rule)) ⊎ Suits (meaning t) (HeldFor closure (meaning t) rule) (AbsentFor closure (meaning t) rule) rule.target
      cases (AssignPasses.no_actor bad) = inl (inl bad)
      cases (AssignPasses.no_user clash) = inl (inr clash)
      cases (AssignPasses.suits suits) = inr suits

-- ---- revoke rules and goals

-- A revoke rule passes the test exactly when it passes.
pub revoke_exact : {t : Table} {roles : ℕ} → Fits t roles → (rule : Revoke) → revoke_passes (turned_of t roles) rule ≡ true ↔ RevokePasses (meaning t) rule
unfolding revoke_passes
revoke_exact {t} {roles} fits rule =
    let two = either_exact _ _ (inconsistent_exact fits rule.admin) (unneeded_exact fits rule.target) in
    (λ test. ⊎_elim RevokePasses.no_actor RevokePasses.unneeded (two.0 test), λ passes. two.1 (cases passes))
  where
    cases : RevokePasses (meaning t) rule → Inconsistent (meaning t) rule.admin ⊎ ((role : ℕ) → rule.target ∈ (meaning t).plus role → role ≡ rule.target)
    cases (RevokePasses.no_actor bad) = inl bad
    cases (RevokePasses.unneeded none) = inr none

-- A goal passes the test exactly when it passes.
pub goal_exact : {t : Table} {roles : ℕ} → Laid t roles → (goal : RoleSet) → Sized goal → goal_passes (turned_of t roles) goal ≡ true ↔ GoalPasses closure (meaning t) goal
unfolding goal_passes closure
goal_exact {t} {roles} laid goal sized =
    let start : SizedPair (record { held = goal; absent = empty_set }) = record { held = sized; absent = empty_sized } in
    let two = either_exact _ _ (high_exact laid (close_of (turned_of t roles) (record { held = goal; absent = empty_set })).held) (clash_test laid.fits start) in (
      λ test. ⊎_elim (λ high. GoalPasses.high ((close_held laid.fits start high.role).0 high.is_held) high.is_high_lem) GoalPasses.never (two.0 test),
      λ passes. two.1 (cases start passes),
    )
  where
    cases : SizedPair (record { held = goal; absent = empty_set }) → GoalPasses closure (meaning t) goal
        → HeldHigh (meaning t) (λ role. role ∈ (close_of (turned_of t roles) (record { held = goal; absent = empty_set })).held) ⊎ Clash (Held (meaning t) goal) (Absent (meaning t) goal empty_set)
    cases start (GoalPasses.high {role = role} held high) = inl (record { role = role; is_held = (close_held laid.fits start role).1 held; is_high_lem = high })
    cases start (GoalPasses.never clash) = inr clash
