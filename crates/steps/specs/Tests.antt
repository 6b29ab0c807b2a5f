-- One step and a bad state as tests, in the words of document 01, "The model" and "Verdicts and refusal numbers".
use Rattle.std.specs.Prelude.{ℕ, suc, Bool, not, ◌&&◌, cond, List, Option, None, option_map, option_and_then, position}
use Rattle.std.specs.Option.{is_some}
use Rattle.roles.specs.declared.RoleSet.{RoleSet}
use Rattle.roles.specs.Sets.{has_role, shares_role, includes}
use Rattle.model.specs.declared.Assign.{Assign}
use Rattle.model.specs.declared.Revoke.{Revoke}
use Rattle.model.specs.declared.Person.{Person}
use Rattle.model.specs.Policy.{State, person}
use Rattle.steps.specs.declared.Found.{Found}

-- ---- one step

-- A present actor who holds the administrative role may give the target role to a present user who holds all of the positive set,
-- none of the negative set, and doesn't yet hold the target role.
unfoldable pub may_assign : Assign → Person → Person → Bool
may_assign rule actor user =
    actor.present
    && user.present
    && has_role actor.roles rule.admin
    && includes user.roles rule.positive
    && not (shares_role rule.negative user.roles)
    && not (has_role user.roles rule.target)

-- A present actor who holds the administrative role may take the target role from a present user who holds it.
unfoldable pub may_revoke : Revoke → Person → Person → Bool
may_revoke rule actor user = actor.present && user.present && has_role actor.roles rule.admin && has_role user.roles rule.target

-- ---- a bad state

-- The lowest number, from 1, of a goal all of whose roles are among these, where there is one.
unfoldable pub lowest_goal : List RoleSet → RoleSet → Option ℕ
lowest_goal goals roles = option_map suc (position (includes roles) goals)

-- The lowest goal that a present L person holds whole; none for any other.
unfoldable pub own_goal : List RoleSet → Person → Option ℕ
own_goal goals p = cond (p.present && not p.clearance) (lowest_goal goals p.roles) None

-- The person is present and L and holds all roles of some goal.
unfoldable pub bad_person : List RoleSet → Person → Bool
bad_person goals p = is_some (own_goal goals p)

-- The number of the user at this place, with that user's lowest goal.
unfoldable pub found_at : State → List RoleSet → ℕ → Option Found
found_at σ goals user = option_map (λ goal. record { user = suc user; goal = goal }) (own_goal goals (person σ user))

-- The first present L user in order who holds all roles of a goal, with that user's lowest goal.
unfoldable pub first_bad : State → List RoleSet → Option Found
first_bad σ goals = option_and_then (found_at σ goals) (position (bad_person goals) σ)
