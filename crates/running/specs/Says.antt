-- What ATTACKED, BROKEN and SHORT say of a trace.
use Rattle.std.specs.Prelude.{ℕ, suc, List, ◌≡◌, length}
use Rattle.model.specs.Policy.{State, Bad}
use Rattle.tables.specs.declared.Name.{Name}
use Rattle.walking.specs.Texts.{read}
use Rattle.reading.specs.Policy.{Said, policy_of}
use Rattle.steps.specs.Places.{At}
use Rattle.steps.specs.Bad.{FirstBad}
use Rattle.following.specs.Follows.{Follows, Breaks}
use Rattle.traces.specs.TraceText.{Traced, read_trace}

-- ---- what each verdict says

-- The text is read as this trace, over the users and the numbers of rules that the policy text says.
abbrev pub Reads : Said → List ℕ → Traced → Type 0
Reads s text trace = read_trace (length s.assigns) (length s.revokes) s.users text ≡ read trace

-- ATTACKED: the text is read as so many steps, they are a run of the policy from the holdings, and in its last state this user, at a place
-- from 0, is the first present L user who holds all roles of a goal, and this goal, by its number from 1, that user's lowest. The name is
-- the one that stands at that place: the listed users come first, then who joined, in order of joining.
pub record Attacked (s : Said) (text : List ℕ) (count user : ℕ) (name : Name) (goal : ℕ) : Type 0 where
  pub trace : Traced
  pub reads : Reads s text trace
  pub counted : count ≡ length trace.steps
  pub last : State
  pub follows : Follows (policy_of s) s.holdings trace.steps last
  pub first : FirstBad s.goals last (record { user = suc user; goal = goal })
  pub named : At name trace.names user

-- BROKEN: the text is read, and the step with this number is the first that is no step of the policy's run from the holdings.
pub record Broken (s : Said) (text : List ℕ) (number : ℕ) : Type 0 where
  pub trace : Traced
  pub reads : Reads s text trace
  pub breaks : Breaks (policy_of s) s.holdings trace.steps number

-- SHORT: the text is read as so many steps, they are a run of the policy from the holdings, and its last state is not bad.
pub record Short (s : Said) (text : List ℕ) (count : ℕ) : Type 0 where
  pub trace : Traced
  pub reads : Reads s text trace
  pub counted : count ≡ length trace.steps
  pub last : State
  pub follows : Follows (policy_of s) s.holdings trace.steps last
  pub safe : Bad s.goals last → ⊥
