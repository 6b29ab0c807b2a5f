-- The first present L user who holds all roles of a goal, and that user's lowest goal.
use Rattle.std.specs.Prelude.{ℕ, suc, ◌<◌, true, ◌≡◌, length, get_or}
use mathlib.Core.List.{List, Memᴰ as Listed}
use Rattle.roles.specs.declared.RoleSet.{RoleSet}
use Rattle.roles.specs.Sets.{empty_set}
use Rattle.roles.specs.Members.{Within}
use Rattle.model.specs.declared.Person.{Person}
use Rattle.model.specs.Policy.{L, State, person, Present, HoldsAll}
use Rattle.steps.specs.declared.Found.{Found}

-- The goal at a place of the list. Past its end stands the empty set, which is no goal.
unfoldable pub goal_at : List RoleSet → ℕ → RoleSet
goal_at goals goal = get_or goals goal empty_set

-- The goal at the place is the lowest that the roles hold whole.
pub record Lowest (goals : List RoleSet) (roles : RoleSet) (goal : ℕ) : Type 0 where
  pub inside : goal < length goals
  pub whole : Within (goal_at goals goal) roles
  pub lower : (other : ℕ) → other < goal → Within (goal_at goals other) roles → ⊥

-- A present L person holds all roles of some goal.
pub record HoldsGoal (goals : List RoleSet) (p : Person) : Type 0 where
  pub present : p.present ≡ true
  pub low : p.clearance ≡ L
  pub goal : RoleSet
  pub listed : Listed goal goals
  pub whole : Within goal p.roles

-- The first present L user in order who holds all roles of a goal, with that user's lowest goal, by numbers from 1.
pub record FirstBad (goals : List RoleSet) (σ : State) (found : Found) : Type 0 where
  -- the user's place and the goal's
  pub user : ℕ
  pub goal : ℕ
  pub user_number : found.user ≡ suc user
  pub goal_number : found.goal ≡ suc goal
  -- the user is present and L and holds all roles of the goal
  pub present : Present σ user
  pub low : (person σ user).clearance ≡ L
  pub inside : goal < length goals
  pub holds : HoldsAll σ user (goal_at goals goal)
  -- no earlier user is present and L and holds all roles of some goal
  pub earlier : (other : ℕ) → other < user → HoldsGoal goals (person σ other) → ⊥
  -- the user does not hold all roles of any lower goal
  pub lower : (other : ℕ) → other < goal → HoldsAll σ user (goal_at goals other) → ⊥
