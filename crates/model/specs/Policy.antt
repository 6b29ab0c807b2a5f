-- Policies, states, steps, joining and leaving, runs and bad states, in the order of document 01, "The model", and of document 02, CR 2.
use Rattle.std.specs.Prelude.{ℕ, ◌<◌, Bool, true, false, ◌≡◌, length, get_or, set}
use mathlib.Core.List.{List, [], ◌∷◌, ◌++◌, Memᴰ as Listed}
use Rattle.roles.specs.declared.RoleSet.{RoleSet}
use Rattle.roles.specs.Sets.{empty_set, with_of, without_of}
use Rattle.roles.specs.Members.{◌∈◌, Share, Within}
use Rattle.model.specs.declared.Assign.{Assign}
use Rattle.model.specs.declared.Revoke.{Revoke}
use Rattle.model.specs.declared.Person.{Person}

-- A clearance or a label is L or H, as the code has it: false or true.
abbrev pub Label : Type 0
Label = Bool

abbrev pub L : Label
L = false

abbrev pub H : Label
H = true

infix 40 ◌⊑◌
-- L is below H: a label is at most another when the other is H wherever it is.
pub record ◌⊑◌ (a b : Label) : Type 0 where
  pub raised : a ≡ H → b ≡ H

-- A policy's assign rules, revoke rules and goals. Users and initial holdings are a state.
pub record Policy : Type 0 where
  pub assigns : List Assign
  pub revokes : List Revoke
  pub goals : List RoleSet

-- Two policies run together: the rules and goals of one followed by those of the other.
unfoldable pub joint : Policy → Policy → Policy
joint P Q = record {
  assigns = P.assigns ++ Q.assigns;
  revokes = P.revokes ++ Q.revokes;
  goals = P.goals ++ Q.goals;
}

-- The assign rule of an administrative role, a positive set, a negative set and a target role.
abbrev pub assigning : ℕ → RoleSet → RoleSet → ℕ → Assign
assigning admin positive negative target = record { admin = admin; positive = positive; negative = negative; target = target }

-- What stands for a place past the end of a list of rules: no rule.
unfoldable pub no_assign : Assign
no_assign = assigning 0 empty_set empty_set 0

unfoldable pub no_revoke : Revoke
no_revoke = record { admin = 0; target = 0 }

-- All who were ever here, in order of appearance: the listed users, then who joined. Each has a clearance and roles, and is present or
-- gone. A user is a place in the list.
abbrev pub State : Type 0
State = List Person

-- Who has just come: present, of either clearance, with no roles.
unfoldable pub newcomer : Label → Person
newcomer clearance = record { clearance = clearance; present = true; roles = empty_set }

-- What stands for a place past the end: nobody, who is not present and holds nothing.
unfoldable pub nobody : Person
nobody = record { clearance = L; present = false; roles = empty_set }

unfoldable pub person : State → ℕ → Person
person σ user = get_or σ user nobody

-- The user is in the list, and has not left.
pub record Present (σ : State) (user : ℕ) : Type 0 where
  pub listed : user < length σ
  pub here : (person σ user).present ≡ true

-- The user holds the role; holds all of the set; holds none of the set.
pub record Holds (σ : State) (user role : ℕ) : Type 0 where
  pub held : role ∈ (person σ user).roles

pub record HoldsAll (σ : State) (user : ℕ) (roles : RoleSet) : Type 0 where
  pub all : Within roles (person σ user).roles

pub record HoldsNone (σ : State) (user : ℕ) (roles : RoleSet) : Type 0 where
  pub none : Share roles (person σ user).roles → ⊥

-- An actor who holds the administrative role can use an assign rule on a user who holds all of the positive set and none of the
-- negative set. Actor and user may be the same person.
pub record CanAssign (σ : State) (actor : ℕ) (rule : Assign) (user : ℕ) : Type 0 where
  pub actor_present : Present σ actor
  pub actor_holds : Holds σ actor rule.admin
  pub user_present : Present σ user
  pub all : HoldsAll σ user rule.positive
  pub none : HoldsNone σ user rule.negative

-- An actor who holds the administrative role can use a revoke rule on any user.
pub record CanRevoke (σ : State) (actor : ℕ) (rule : Revoke) (user : ℕ) : Type 0 where
  pub actor_present : Present σ actor
  pub actor_holds : Holds σ actor rule.admin
  pub user_present : Present σ user

-- The person with other roles, and all else as it was; with one role more; with one role less.
abbrev pub with_roles : Person → RoleSet → Person
with_roles p roles = record { clearance = p.clearance; present = p.present; roles = roles }

unfoldable pub with_role : Person → ℕ → Person
with_role p role = with_roles p (with_of p.roles role)

unfoldable pub without_role : Person → ℕ → Person
without_role p role = with_roles p (without_of p.roles role)

-- The user holds one role more; one role less.
unfoldable pub granted : State → ℕ → ℕ → State
granted σ user role = set σ user (with_role (person σ user) role)

unfoldable pub revoked : State → ℕ → ℕ → State
revoked σ user role = set σ user (without_role (person σ user) role)

-- One step of a policy: an assign rule of it gives the target role to a user who doesn't yet hold it; or a revoke rule of it takes
-- the target role from a user who holds it.
pub data Step (P : Policy) (σ : State) : State → Type 0 where
  assign : {rule : Assign} {actor user : ℕ} → Listed rule P.assigns → CanAssign σ actor rule user → (Holds σ user rule.target → ⊥) → Step P σ (granted σ user rule.target)
  revoke : {rule : Revoke} {actor user : ℕ} → Listed rule P.revokes → CanRevoke σ actor rule user → Holds σ user rule.target → Step P σ (revoked σ user rule.target)

-- The person who has left: gone, with no roles.
unfoldable pub leaver : Person → Person
leaver p = record { clearance = p.clearance; present = false; roles = empty_set }

-- Somebody has joined, at a new place after all others; a user has left.
unfoldable pub joined : State → Label → State
joined σ clearance = σ ++ (newcomer clearance ∷ [])

unfoldable pub departed : State → ℕ → State
departed σ user = set σ user (leaver (person σ user))

-- One move in a directory with a policy: a step of the policy; somebody of either clearance joins with no roles; or a present user leaves
-- with all roles. Nobody comes back: no move makes anybody present who is in the list (`gone_stays`).
pub data Move (P : Policy) (σ : State) : State → Type 0 where
  step : {τ : State} → Step P σ τ → Move P σ τ
  join : (clearance : Label) → Move P σ (joined σ clearance)
  leave : {user : ℕ} → Present σ user → Move P σ (departed σ user)

-- Any finite sequence of steps of some kind, the empty one included.
pub data Runs (S : State → State → Type 0) (σ : State) : State → Type 0 where
  stay : Runs S σ σ
  next : {τ υ : State} → Runs S σ τ → S τ υ → Runs S σ υ

-- A run of a policy is any finite sequence of moves. `Runs (Step P)` are those in which nobody joins or leaves.
abbrev pub Run : Policy → State → State → Type 0
Run P = Runs (Move P)

-- A state is bad when some present L user holds all roles of some goal.
pub record Bad (goals : List RoleSet) (σ : State) : Type 0 where
  pub user : ℕ
  pub present : Present σ user
  pub low : (person σ user).clearance ≡ L
  pub goal : RoleSet
  pub listed : Listed goal goals
  pub holds : HoldsAll σ user goal
