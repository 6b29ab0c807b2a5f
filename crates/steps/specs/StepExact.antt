-- A step is possible exactly when its rule can be used so; a trace is broken at its first step that is not possible.
use Prim.Native.Nat.{ℕ, zero, suc, ◌<◌}
use borrow.Author.Tests.{ltb-true, lt-ltb, eqb-true, eq-eqb}
use Rattle.std.specs.Prelude.{Bool, not, ◌&&◌, ◌↔◌, ◌≡◌, ltb, length}
use Rattle.std.proofs.Math.Bool.{true, false}
use mathlib.Core.List.Memᴰ.{head as foremost}
use mathlib.Core.List.Memᴰ.{tail as further}
use mathlib.Core.List.{List, [], ◌∷◌, ◌++◌, append_assoc, Memᴰ as Listed}
use Rattle.std.proofs.Math.Path.{refl, sym, ap}
use Rattle.std.proofs.Common.{◌∙◌}
use Rattle.roles.specs.declared.RoleSet.{RoleSet}
use Rattle.roles.specs.Sets.{has_role, shares_role, includes}
use Rattle.roles.specs.Members.{Sized}
use Rattle.roles.specs.MemberLaws.{empty_sized}
use Rattle.roles.specs.Joined.{both_exact, not_exact, share_exact, within_exact}
use Rattle.model.specs.declared.Assign.{Assign}
use Rattle.model.specs.Policy.{Policy, no_assign, State, person, Present, Holds, HoldsAll, HoldsNone, CanAssign, CanRevoke}
use Rattle.model.specs.Sized.{SizedRule, SizedPolicy}
use Rattle.steps.specs.declared.Step.{Step as TraceStep}
use Rattle.steps.specs.Tests.{may_assign, may_revoke}
use Rattle.steps.specs.Traces.{assign_at, revoke_at, possible, after, broken, ran, later, run_of}
use Rattle.steps.specs.Runs.{broken_same, broken_ran, later_broken, run_on, run_off, run_breaks}

-- ---- a step

below_exact : (n limit : ℕ) → ltb n limit ≡ true ↔ n < limit
below_exact n limit = (ltb-true n limit, lt-ltb n limit)

module _ (σ : State) (user : ℕ) where
  -- each test of a step is exact
  here_exact : (person σ user).present ≡ true ↔ (person σ user).present ≡ true
  here_exact = (λ e. e, λ e. e)

  holds_exact : (role : ℕ) → has_role (person σ user).roles role ≡ true ↔ Holds σ user role
  holds_exact role = (λ e. record { held = record { found = e } }, λ holds. holds.held.found)

  all_exact : {roles : RoleSet} → Sized roles → includes (person σ user).roles roles ≡ true ↔ HoldsAll σ user roles
  all_exact sized =
      let test = within_exact (person σ user).roles sized in
      (λ e. record { all = test.0 e }, λ holds. test.1 holds.all)

  none_exact : {roles : RoleSet} → Sized roles → not (shares_role roles (person σ user).roles) ≡ true ↔ HoldsNone σ user roles
  none_exact sized =
      let test = not_exact _ (share_exact (person σ user).roles sized) in
      (λ e. record { none = test.0 e }, λ lacks. test.1 lacks.none)

-- the sets of the rule at a place are words of 64 bits where those of all rules are
sized_at : (assigns : List Assign) (place : ℕ) → ((rule : Assign) → Listed rule assigns → SizedRule rule) → SizedRule (assign_at assigns place)
unfolding assign_at no_assign
sized_at [] place sized = record { positive = empty_sized; negative = empty_sized }
sized_at (rule ∷ assigns) zero sized = sized rule (foremost refl)
sized_at (rule ∷ assigns) (suc place) sized = sized_at assigns place (λ r m. sized r (further m))

module _ (P : Policy) (σ : State) (actor rule user : ℕ) where
  -- the rule is one of its list, and both were ever here
  listed_exact : (rules : ℕ) → (ltb rule rules && ltb actor (length σ) && ltb user (length σ)) ≡ true ↔ (((rule < rules) × (actor < length σ)) × (user < length σ))
  listed_exact rules = both_exact _ _ (both_exact _ _ (below_exact rule rules) (below_exact actor (length σ))) (below_exact user (length σ))

  -- An assign step is possible exactly when its rule is one of the list, the actor can use it on the user, and the user doesn't yet hold the target.
  pub assign_possible : SizedPolicy P → possible P σ (TraceStep.Assign actor rule user) ≡ true ↔ ((rule < length P.assigns) × (CanAssign σ actor (assign_at P.assigns rule) user × (Holds σ user (assign_at P.assigns rule).target → ⊥)))
  unfolding possible may_assign
  assign_possible sizes =
      let sized = sized_at P.assigns rule (λ r. sizes.assigns) in
      let roles = both_exact _ _ (both_exact _ _ (here_exact σ actor) (here_exact σ user)) (holds_exact σ actor _) in
      let may = both_exact _ _ (both_exact _ _ (both_exact _ _ roles (all_exact σ user sized.positive)) (none_exact σ user sized.negative)) (not_exact _ (holds_exact σ user _)) in
      let test = both_exact _ _ (listed_exact (length P.assigns)) may in (
        λ e.
            let (((inside, acts), used), (((((acting, here), admin), positive), negative), fresh)) = test.0 e in
            (inside, (record { actor_present = record { listed = acts; here = acting }; actor_holds = admin; user_present = record { listed = used; here = here }; all = positive; none = negative }, fresh)),
        λ (inside, (can, fresh)). test.1 (((inside, can.actor_present.listed), can.user_present.listed), (((((can.actor_present.here, can.user_present.here), can.actor_holds), can.all), can.none), fresh)),
      )

  -- A revoke step likewise, and the user holds the target.
  pub revoke_possible : possible P σ (TraceStep.Revoke actor rule user) ≡ true ↔ ((rule < length P.revokes) × (CanRevoke σ actor (revoke_at P.revokes rule) user × Holds σ user (revoke_at P.revokes rule).target))
  unfolding possible may_revoke
  revoke_possible =
      let roles = both_exact _ _ (both_exact _ _ (here_exact σ actor) (here_exact σ user)) (holds_exact σ actor _) in
      let test = both_exact _ _ (listed_exact (length P.revokes)) (both_exact _ _ roles (holds_exact σ user _)) in (
        λ e.
            let (((inside, acts), used), (((acting, here), admin), target)) = test.0 e in
            (inside, (record { actor_present = record { listed = acts; here = acting }; actor_holds = admin; user_present = record { listed = used; here = here } }, target)),
        λ (inside, (can, target)). test.1 (((inside, can.actor_present.listed), can.user_present.listed), (((can.actor_present.here, can.user_present.here), can.actor_holds), target)),
      )

module _ (P : Policy) (σ : State) (user : ℕ) where
  -- Somebody can join at a place exactly when it is the next one,
  pub join_possible : (clearance : Bool) → possible P σ (TraceStep.Join user clearance) ≡ true ↔ user ≡ length σ
  unfolding possible
  join_possible clearance = (eqb-true user (length σ), eq-eqb user (length σ))

  -- and a user can leave exactly when present.
  pub leave_possible : possible P σ (TraceStep.Leave user) ≡ true ↔ Present σ user
  unfolding possible
  leave_possible =
      let test = both_exact _ _ (below_exact user (length σ)) (here_exact σ user) in
      (λ e. record { listed = (test.0 e).0; here = (test.0 e).1 }, λ here. test.1 (here.listed, here.here))

-- ---- a broken run

-- The steps before this number run to some state, and the step with this number is not possible there.
pub record BrokenAt (P : Policy) (σ : State) (steps : List TraceStep) (number : ℕ) : Type 0 where
  pub earlier : List TraceStep
  pub step : TraceStep
  pub rest : List TraceStep
  pub parted : steps ≡ earlier ++ (step ∷ rest)
  pub numbered : number ≡ suc (length earlier)
  pub state : State
  pub runs : run_of P σ earlier ≡ ran state
  pub impossible : possible P state step ≡ false

module _ (P : Policy) where
  broken_told : (σ : State) (steps : List TraceStep) (n : ℕ) → run_of P σ steps ≡ broken n → BrokenAt P σ steps n
  unfolding run_of later
  broken_told σ [] n e = absurd (broken_ran (sym e))
  broken_told σ (step ∷ steps) n e = go (possible P σ step) refl (broken_told (after P σ step) steps)
    where
      go : (b : Bool) → possible P σ step ≡ b
          → ((m : ℕ) → run_of P (after P σ step) steps ≡ broken m → BrokenAt P (after P σ step) steps m) → BrokenAt P σ (step ∷ steps) n
      go true h rest =
          let (m, next, here) = later_broken _ (sym (run_on P σ step steps h) ∙ e) in
          let found = rest m here in
          record {
            earlier = step ∷ found.earlier;
            step = found.step;
            rest = found.rest;
            parted = ap (λ (l : List TraceStep). step ∷ l) found.parted;
            numbered = next ∙ ap suc found.numbered;
            state = found.state;
            runs = run_on P σ step found.earlier h ∙ ap later found.runs;
            impossible = found.impossible;
          }
      go false h rest = record {
        earlier = [];
        step = step;
        rest = steps;
        parted = refl;
        numbered = sym (broken_same (sym (run_off P σ step steps h) ∙ e));
        state = σ;
        runs = refl;
        impossible = h;
      }

  -- A run is broken with a number exactly when the steps before it run and the step with that number is not possible.
  pub broken_first : (σ : State) (steps : List TraceStep) (n : ℕ) → run_of P σ steps ≡ broken n ↔ BrokenAt P σ steps n
  broken_first σ steps n = (
    broken_told σ steps n,
    λ at. ap (run_of P σ) at.parted ∙ run_breaks P σ at.earlier at.step at.rest at.runs at.impossible ∙ ap broken (sym at.numbered),
  )

  -- A broken run stays broken with more steps.
  pub broken_stays : (σ : State) (steps more : List TraceStep) (n : ℕ) → run_of P σ steps ≡ broken n → run_of P σ (steps ++ more) ≡ broken n
  broken_stays σ steps more n e =
      let at = broken_told σ steps n e in
      (broken_first σ (steps ++ more) n).1 (record {
        earlier = at.earlier;
        step = at.step;
        rest = at.rest ++ more;
        parted = ap (λ (l : List TraceStep). l ++ more) at.parted ∙ append_assoc at.earlier (at.step ∷ at.rest) more;
        numbered = at.numbered;
        state = at.state;
        runs = at.runs;
        impossible = at.impossible;
      })
