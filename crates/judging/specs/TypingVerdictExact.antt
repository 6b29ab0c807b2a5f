-- The verdict is exact: accepted exactly when the typing is, and otherwise the first failure in document 01's order.
use Rattle.std.specs.Prelude.{ℕ, true, ◌↔◌, ◌⊎◌, ◌≡◌, refl, length}
use mathlib.Core.List.{Memᴰ as Listed}
use Rattle.std.proofs.Common.{inl, inr, subst}
use Rattle.roles.specs.declared.RoleSet.{RoleSet}
use Rattle.model.specs.declared.Typing.{Typing as Table}
use Rattle.model.specs.declared.Assign.{Assign}
use Rattle.model.specs.declared.Revoke.{Revoke}
use Rattle.model.specs.declared.Person.{Person}
use Rattle.model.specs.Policy.{State, nobody, person}
use Rattle.model.specs.Sized.{SizedPolicy}
use Rattle.model.specs.Typing.{Typing, closure, AssignPasses, RevokePasses, WellTyped, HoldingsPass, GoalPasses, RulesPass, Accepted}
use Rattle.model.specs.Meaning.{meaning}
use Rattle.sheets.specs.Turned.{turned_of}
use Rattle.rules.specs.Tests.{person_passes, assign_passes, revoke_passes, goal_passes}
use Rattle.rules.specs.RuleExact.{Laid, person_exact, assign_exact, revoke_exact, goal_exact}
use Rattle.reading.specs.Policy.{Said, policy_of}
use Rattle.steps.proofs.PlaceLaws.{at_inside, at_stands, stands_at, at_listed, listed_at}
use Rattle.judging.specs.declared.Part.{Part}
use Rattle.judging.specs.Verdict.{TypingVerdict, accepted, unproved, subject_of, first_holding, first_assign, first_revoke, first_goal, failing_part, and_then, rules_said, all_said, judged_rules, judged_typing, rules_verdict, typing_verdict}
use Rattle.judging.specs.Failures.{FirstRule, at_assign, at_revoke, FirstFailure, at_holdings, at_rule, at_goal}
use Rattle.judging.specs.Order.{both_accepted, one_fails, part_accepted, part_fails}

-- ---- the holdings of every user, by place or by person

holdings_each : (Γ : Typing) (σ : State) → HoldingsPass Γ σ ↔ ((p : Person) → Listed p σ → WellTyped Γ p)
unfolding person
holdings_each Γ σ = (
  λ pass p m. let (place, at) = listed_at m in subst (WellTyped Γ) (at_stands nobody at) (pass.user (at_inside at)),
  λ each. record { user = λ {user} here. each (person σ user) (at_listed (stands_at nobody σ user here)) },
)

module _ (s : Said) {t : Table} (sized : SizedPolicy (policy_of s)) (laid : Laid t (length s.roles)) where
  -- ---- each part's test is exact

  persons_exact : (p : Person) → Listed p s.holdings → person_passes (turned_of t (length s.roles)) p ≡ true ↔ WellTyped (meaning t) p
  persons_exact p m = person_exact laid p

  assigns_exact : (rule : Assign) → Listed rule s.assigns → assign_passes (turned_of t (length s.roles)) rule ≡ true ↔ AssignPasses closure (meaning t) rule
  unfolding policy_of
  assigns_exact rule m = assign_exact laid rule (sized.assigns m)

  revokes_exact : (rule : Revoke) → Listed rule s.revokes → revoke_passes (turned_of t (length s.roles)) rule ≡ true ↔ RevokePasses (meaning t) rule
  revokes_exact rule m = revoke_exact laid.fits rule

  goals_exact : (goal : RoleSet) → Listed goal s.goals → goal_passes (turned_of t (length s.roles)) goal ≡ true ↔ GoalPasses closure (meaning t) goal
  unfolding policy_of
  goals_exact goal m = goal_exact laid goal (sized.goals m)

  -- ---- accepted

  holdings_accepted : failing_part Part.Holdings (first_holding s.holdings (turned_of t (length s.roles))) ≡ accepted ↔ HoldingsPass (meaning t) s.holdings
  unfolding subject_of first_holding
  holdings_accepted =
      let each = holdings_each (meaning t) s.holdings in
      let part = part_accepted Part.Holdings persons_exact in
      (λ e. each.1 (part.0 e), λ pass. part.1 (each.0 pass))

  goals_accepted : failing_part Part.Goal (first_goal (policy_of s) (turned_of t (length s.roles))) ≡ accepted ↔ ((goal : RoleSet) → Listed goal s.goals → GoalPasses closure (meaning t) goal)
  unfolding subject_of policy_of first_goal
  goals_accepted = part_accepted Part.Goal goals_exact

  -- The verdict on the rules is accepted exactly when the rules pass.
  pub rules_accepted : rules_verdict s t ≡ accepted ↔ RulesPass closure (meaning t) (policy_of s)
  unfolding rules_verdict judged_rules rules_said subject_of policy_of first_assign first_revoke
  rules_accepted =
      let assigns = part_accepted Part.Assign assigns_exact in
      let revokes = part_accepted Part.Revoke revokes_exact in
      let both = both_accepted _ _ in (
        λ e. record { assigns = λ {rule} m. assigns.0 (both.0 e).0 rule m; revokes = λ {rule} m. revokes.0 (both.0 e).1 rule m },
        λ pass. both.1 (assigns.1 (λ rule m. pass.assigns m), revokes.1 (λ rule m. pass.revokes m)),
      )

  -- The verdict is accepted exactly when the typing is accepted.
  pub typing_accepted : typing_verdict s t ≡ accepted ↔ Accepted (meaning t) (policy_of s) s.holdings
  unfolding typing_verdict judged_typing all_said rules_verdict policy_of subject_of judged_rules rules_said
  typing_accepted =
      let later-parts = both_accepted _ _ in
      let all = both_accepted _ _ in (
        λ e. record {
          holdings = holdings_accepted.0 (all.0 e).0;
          rules = rules_accepted.0 (later-parts.0 (all.0 e).1).0;
          goals = λ {goal} m. goals_accepted.0 (later-parts.0 (all.0 e).1).1 goal m;
        },
        λ pass. all.1 (holdings_accepted.1 pass.holdings, later-parts.1 (rules_accepted.1 pass.rules, goals_accepted.1 (λ goal m. pass.goals m))),
      )

  -- ---- the first failure

  -- The verdict on the rules is a failure exactly when that is the first.
  pub rules_first : (part : Part) (number : ℕ) → rules_verdict s t ≡ unproved part number ↔ FirstRule (meaning t) (policy_of s) part number
  unfolding rules_verdict judged_rules rules_said subject_of policy_of first_assign first_revoke
  rules_first part number = (λ e. told ((one_fails assigns revokes part number).0 e), found)
    where
      assigns : TypingVerdict
      assigns = failing_part Part.Assign (first_assign (policy_of s) (turned_of t (length s.roles)))

      revokes : TypingVerdict
      revokes = failing_part Part.Revoke (first_revoke (policy_of s) (turned_of t (length s.roles)))

      told : (assigns ≡ unproved part number) ⊎ ((assigns ≡ accepted) × (revokes ≡ unproved part number)) → FirstRule (meaning t) (policy_of s) part number
      told (inl e) =
          let (same, bad) = (part_fails Part.Assign assigns_exact part number).0 e in
          subst (λ (p : Part). FirstRule (meaning t) (policy_of s) p number) same (at_assign bad)
      told (inr (passed, e)) =
          let (same, bad) = (part_fails Part.Revoke revokes_exact part number).0 e in
          subst (λ (p : Part). FirstRule (meaning t) (policy_of s) p number) same (at_revoke ((part_accepted Part.Assign assigns_exact).0 passed) bad)

      found : {p : Part} {n : ℕ} → FirstRule (meaning t) (policy_of s) p n → and_then assigns revokes ≡ unproved p n
      found {n = n} (at_assign bad) = (one_fails assigns revokes Part.Assign n).1 (inl ((part_fails Part.Assign assigns_exact Part.Assign n).1 (refl, bad)))
      found {n = n} (at_revoke pass bad) =
          (one_fails assigns revokes Part.Revoke n).1 (inr ((part_accepted Part.Assign assigns_exact).1 pass, (part_fails Part.Revoke revokes_exact Part.Revoke n).1 (refl, bad)))

  -- The verdict is a failure exactly when that is the first in document 01's order.
  pub unproved_first : (part : Part) (number : ℕ) → typing_verdict s t ≡ unproved part number ↔ FirstFailure (meaning t) (policy_of s) s.holdings part number
  unfolding typing_verdict judged_typing all_said rules_verdict subject_of policy_of first_holding first_goal judged_rules rules_said
  unproved_first part number = (λ e. told ((one_fails users after_users part number).0 e), found)
    where
      users : TypingVerdict
      users = failing_part Part.Holdings (first_holding s.holdings (turned_of t (length s.roles)))

      rules : TypingVerdict
      rules = rules_verdict s t

      goals : TypingVerdict
      goals = failing_part Part.Goal (first_goal (policy_of s) (turned_of t (length s.roles)))

      after_users : TypingVerdict
      after_users = and_then rules goals

      later_part : HoldingsPass (meaning t) s.holdings → (rules ≡ unproved part number) ⊎ ((rules ≡ accepted) × (goals ≡ unproved part number)) → FirstFailure (meaning t) (policy_of s) s.holdings part number
      later_part pass (inl e) = at_rule pass ((rules_first part number).0 e)
      later_part pass (inr (passed, e)) =
          let (same, bad) = (part_fails Part.Goal goals_exact part number).0 e in
          subst (λ (p : Part). FirstFailure (meaning t) (policy_of s) s.holdings p number) same (at_goal pass (rules_accepted.0 passed) bad)

      told : (users ≡ unproved part number) ⊎ ((users ≡ accepted) × (after_users ≡ unproved part number)) → FirstFailure (meaning t) (policy_of s) s.holdings part number
      told (inl e) =
          let (same, bad) = (part_fails Part.Holdings persons_exact part number).0 e in
          subst (λ (p : Part). FirstFailure (meaning t) (policy_of s) s.holdings p number) same (at_holdings bad)
      told (inr (passed, e)) = later_part (holdings_accepted.0 passed) ((one_fails rules goals part number).0 e)

      found : {p : Part} {n : ℕ} → FirstFailure (meaning t) (policy_of s) s.holdings p n → and_then users after_users ≡ unproved p n
      found {n = n} (at_holdings bad) = (one_fails users after_users Part.Holdings n).1 (inl ((part_fails Part.Holdings persons_exact Part.Holdings n).1 (refl, bad)))
      found {p = p} {n = n} (at_rule pass bad) = (one_fails users after_users p n).1 (inr (holdings_accepted.1 pass, (one_fails rules goals p n).1 (inl ((rules_first p n).1 bad))))
      found {n = n} (at_goal pass passed bad) =
          (one_fails users after_users Part.Goal n).1
          (inr (holdings_accepted.1 pass, (one_fails rules goals Part.Goal n).1 (inr (rules_accepted.1 passed, (part_fails Part.Goal goals_exact Part.Goal n).1 (refl, bad)))))
