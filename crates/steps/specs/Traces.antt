-- Whole traces over a policy: which step is possible, the state after it, and going through the steps from a state.
use Rattle.std.specs.Prelude.{ℕ, suc, Bool, cond, ◌&&◌, List, [], ◌∷◌, ltb, eqb, length, get_or}
use Rattle.model.specs.declared.Assign.{Assign}
use Rattle.model.specs.declared.Revoke.{Revoke}
use Rattle.model.specs.Policy.{Policy, no_assign, no_revoke, State, person, granted, revoked, joined, departed}
use Rattle.steps.specs.declared.Step.{Step as TraceStep}
use Rattle.steps.specs.Tests.{may_assign, may_revoke}

-- The rule at a place of the list. Past its end stands what is no rule.
unfoldable pub assign_at : List Assign → ℕ → Assign
assign_at assigns rule = get_or assigns rule no_assign

unfoldable pub revoke_at : List Revoke → ℕ → Revoke
revoke_at revokes rule = get_or revokes rule no_revoke

-- The rule is one of its list, the actor and the user were ever here, and the actor may use it on the user; who joins stands at the next
-- place; who leaves is present.
unfoldable pub possible : Policy → State → TraceStep → Bool
possible P σ (TraceStep.Assign actor rule user) =
    ltb rule (length P.assigns) && ltb actor (length σ) && ltb user (length σ) && may_assign (assign_at P.assigns rule) (person σ actor) (person σ user)
possible P σ (TraceStep.Revoke actor rule user) =
    ltb rule (length P.revokes) && ltb actor (length σ) && ltb user (length σ) && may_revoke (revoke_at P.revokes rule) (person σ actor) (person σ user)
possible P σ (TraceStep.Join user clearance) = eqb user (length σ)
possible P σ (TraceStep.Leave user) = ltb user (length σ) && (person σ user).present

-- The state after the step: the user holds the rule's target; or holds it no more; somebody has joined; the user has left.
unfoldable pub after : Policy → State → TraceStep → State
after P σ (TraceStep.Assign actor rule user) = granted σ user (assign_at P.assigns rule).target
after P σ (TraceStep.Revoke actor rule user) = revoked σ user (revoke_at P.revokes rule).target
after P σ (TraceStep.Join user clearance) = joined σ clearance
after P σ (TraceStep.Leave user) = departed σ user

-- What going through the steps gives: the number, from 1, of the first that is not possible; or the last state.
pub data Ran : Type 0 where
  broken : ℕ → Ran
  ran : State → Ran

-- with one step more before the first
unfoldable pub later : Ran → Ran
later (broken number) = broken (suc number)
later (ran last) = ran last

-- The steps in turn, from a state, up to the first that is not possible where it stands.
unfoldable pub run_of : Policy → State → List TraceStep → Ran
run_of P σ [] = ran σ
run_of P σ (step ∷ steps) =
    cond (possible P σ step) (later (run_of P (after P σ step) steps)) (broken 1)
