-- `enter_new` enters the name of a join where it is not known.
use Rattle.std.proofs.Common.{ℕ, Bool, ◌≡◌, refl, subst, ◌∙◌}
use Rattle.tables.specs.declared.Name.{Name}
use Rattle.reading.specs.Policy.{Said}
use Rattle.steps.specs.declared.Step.{Step}
use Rattle.running.specs.Range.{Room}
use Rattle.running.specs.Joining.{with_new, name_known, name_entered}
use Rattle.running.proofs.state.enter_new.Goals as goal

-- where the step is no join, nobody is entered
no_join : (s : Said) (step : Step) (name : Name) → ((user : ℕ) → (clearance : Bool) → step ≡ Step.Join user clearance → ⊥) → s ≡ with_new s step name
unfolding with_new
no_join s (Step.Assign actor rule user) name other = refl
no_join s (Step.Revoke actor rule user) name other = refl
no_join s (Step.Join user clearance) name other = absurd (other user clearance refl)
no_join s (Step.Leave user) name other = refl

pub returns-then-user-c : goal.returns-then-user-c
returns-then-user-c c = rw c.in-Join.is (name_known _ _ _ _ _ c.if-user-c.true)

pub enter-requires : goal.enter-requires
enter-requires c = (c.requires.0, c.requires.1, subst (Room c.args.c.users) c.in-Join.is c.requires.2 c.if-user-c.false)

pub returns-else-user-c : goal.returns-else-user-c
returns-else-user-c c = rw c.in-Join.is (c.enter.ensures ∙ name_entered _ _ _ _ _ c.if-user-c.false)

pub returns-in_default : goal.returns-in_default
returns-in_default c = no_join _ c.args.step _ c.in_default.not-Join
