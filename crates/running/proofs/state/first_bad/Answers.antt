-- `first_bad` goes through the people; the invariant: none before the place is bad.
use Rattle.std.proofs.Common.{ℕ, ◌+◌, List, ◌≡◌, sym, ap, ◌∙◌, add-one}
use Rattle.std.specs.Prelude.{Option, Some, None, position, option_and_then}
use Rattle.std.specs.Option.{is_some}
use Rattle.roles.specs.declared.RoleSet.{RoleSet}
use Rattle.model.specs.declared.Person.{Person}
use Rattle.model.specs.Policy.{State, nobody, person}
use Rattle.ledgers.specs.PartLaws.{rows_at}
use Rattle.ledgers.specs.Ledger.{people}
use Rattle.steps.specs.Tests.{own_goal, bad_person, found_at, first_bad}
use Rattle.running.specs.Looking.{passed_more, first_here, first_nowhere}
use Rattle.running.proofs.state.first_bad.Goals as goal

-- what the place of the first says of the answer
module _ (σ : State) (goals : List RoleSet) where
  answer-here : (place : ℕ) {goal : ℕ} → position (bad_person goals) σ ≡ Some place → own_goal goals (person σ place) ≡ Some goal → Some (record { user = place + 1; goal = goal }) ≡ first_bad σ goals
  unfolding first_bad found_at
  answer-here place {goal} first own =
      (λ i. Some (record { user = add-one place i; goal = goal })) ∙ sym (ap (option_and_then (found_at σ goals)) first ∙ rw own)

  answer-none : position (bad_person goals) σ ≡ None → None ≡ first_bad σ goals
  unfolding first_bad
  answer-none nowhere = sym (ap (option_and_then (found_at σ goals)) nowhere)

-- what a person's own goal says of the test
bad-by : (goals : List RoleSet) {p q : Person} {own : Option ℕ} → own ≡ own_goal goals p → p ≡ q → {goal : Option ℕ} → own ≡ goal → bad_person goals q ≡ is_some goal
unfolding bad_person
bad-by goals own same is = cc

pub returns-in-Some : goal.returns-in-Some
unfolding person
returns-in-Some c =
    let test = bad-by _ c.own_goal.ensures c.row_at-person.ensures c.in-Some.is in
    let row = rows_at people _ _ c.loop-place.place nobody c.loop-place-test.true in
    answer-here _ _ c.loop-place.place (first_here c.loop-place.invariant c.loop-place-test.true test) (ap (own_goal _) (row ∙ sym c.row_at-person.ensures) ∙ sym c.own_goal.ensures ∙ c.in-Some.is)

pub loop-place-preserved : goal.loop-place-preserved
loop-place-preserved c = passed_more c.loop-place.invariant c.loop-place-test.true (bad-by _ c.own_goal.ensures c.row_at-person.ensures c.in_default.is)

pub returns : goal.returns
returns c = answer-none _ _ (first_nowhere c.loop-place.invariant c.loop-place-test.false)
