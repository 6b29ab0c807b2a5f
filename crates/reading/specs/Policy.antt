-- A whole policy text: what each line adds.
use Rattle.std.specs.Prelude.{ℕ, Bool, true, cond, not, List, [], ◌∷◌, ◌++◌, eqb, length}
use Rattle.roles.specs.declared.RoleSet.{RoleSet}
use Rattle.roles.specs.Sets.{has_role}
use Rattle.model.specs.declared.Assign.{Assign}
use Rattle.model.specs.declared.Revoke.{Revoke}
use Rattle.model.specs.Policy.{Policy, State, person, granted, joined}
use Rattle.tables.specs.declared.Name.{Name}
use Rattle.lines.specs.declared.Counts.{Counts}
use Rattle.lines.specs.declared.Entry.{Entry}
use Rattle.walking.specs.Texts.{Judged, goes, ends, bad, Reading, read_text}
use Rattle.walking.specs.Turns.{Test, test, in_turn}
use Rattle.text.specs.Pieces.{split}
use Rattle.lines.specs.Lines.{Asked, asked, tests, line_of, header_kind, role_kind, user_kind, has_kind, assign_kind, revoke_kind, goal_kind, end_kind}

-- What the lines so far say: the kind of the last one, the names, the holdings, the rules and the goals, each in the order read.
pub record Said : Type 0 where
  pub stage : ℕ
  pub roles : List Name
  pub users : List Name
  pub holdings : State
  pub assigns : List Assign
  pub revokes : List Revoke
  pub goals : List RoleSet

-- before the first line
unfoldable pub nothing : Said
nothing = record { stage = 0; roles = []; users = []; holdings = []; assigns = []; revokes = []; goals = [] }

unfoldable pub counts_of : Said → Counts
counts_of s = record {
  stage = s.stage;
  roles = length s.roles;
  users = length s.users;
  assigns = length s.assigns;
  revokes = length s.revokes;
  goals = length s.goals;
}

-- The rules and goals that a policy text says.
unfoldable pub policy_of : Said → Policy
policy_of s = record { assigns = s.assigns; revokes = s.revokes; goals = s.goals }

-- What is said with one part changed, and all else as it was.
abbrev pub at_stage : ℕ → Said → Said
at_stage kind s = record { stage = kind; roles = s.roles; users = s.users; holdings = s.holdings; assigns = s.assigns; revokes = s.revokes; goals = s.goals }

abbrev pub say_roles : List Name → Said → Said
say_roles roles s = record { stage = s.stage; roles = roles; users = s.users; holdings = s.holdings; assigns = s.assigns; revokes = s.revokes; goals = s.goals }

abbrev pub say_users : List Name → Said → Said
say_users users s = record { stage = s.stage; roles = s.roles; users = users; holdings = s.holdings; assigns = s.assigns; revokes = s.revokes; goals = s.goals }

abbrev pub say_holdings : State → Said → Said
say_holdings holdings s = record { stage = s.stage; roles = s.roles; users = s.users; holdings = holdings; assigns = s.assigns; revokes = s.revokes; goals = s.goals }

abbrev pub say_assigns : List Assign → Said → Said
say_assigns assigns s = record { stage = s.stage; roles = s.roles; users = s.users; holdings = s.holdings; assigns = assigns; revokes = s.revokes; goals = s.goals }

abbrev pub say_revokes : List Revoke → Said → Said
say_revokes revokes s = record { stage = s.stage; roles = s.roles; users = s.users; holdings = s.holdings; assigns = s.assigns; revokes = revokes; goals = s.goals }

abbrev pub say_goals : List RoleSet → Said → Said
say_goals goals s = record { stage = s.stage; roles = s.roles; users = s.users; holdings = s.holdings; assigns = s.assigns; revokes = s.revokes; goals = goals }

-- The kind of the line that says an entry.
unfoldable pub kind_of : Entry → ℕ
kind_of Entry.Header = header_kind
kind_of (Entry.Role name) = role_kind
kind_of (Entry.User name clearance) = user_kind
kind_of (Entry.Has user role) = has_kind
kind_of (Entry.Assign rule) = assign_kind
kind_of (Entry.Revoke rule) = revoke_kind
kind_of (Entry.Goal goal) = goal_kind
kind_of Entry.End = end_kind

-- What an entry adds to its part: one more at the end, where a user has joined with no roles; or a role to what a user holds.
unfoldable pub noted : Said → Entry → Said
noted s Entry.Header = s
noted s (Entry.Role name) = say_roles (s.roles ++ (name ∷ [])) s
noted s (Entry.User name clearance) = say_users (s.users ++ (name ∷ [])) (say_holdings (joined s.holdings clearance) s)
noted s (Entry.Has user role) = say_holdings (granted s.holdings user role) s
noted s (Entry.Assign rule) = say_assigns (s.assigns ++ (rule ∷ [])) s
noted s (Entry.Revoke rule) = say_revokes (s.revokes ++ (rule ∷ [])) s
noted s (Entry.Goal goal) = say_goals (s.goals ++ (goal ∷ [])) s
noted s Entry.End = s

unfoldable pub added : Said → Entry → Said
added s e = at_stage (kind_of e) (noted s e)

-- The entry is new: it is no has pair that stands above already.
unfoldable pub is_new : State → Entry → Bool
is_new σ Entry.Header = true
is_new σ (Entry.Role name) = true
is_new σ (Entry.User name clearance) = true
is_new σ (Entry.Has user role) = not (has_role (person σ user).roles role)
is_new σ (Entry.Assign rule) = true
is_new σ (Entry.Revoke rule) = true
is_new σ (Entry.Goal goal) = true
is_new σ Entry.End = true

-- What a good line's entry leads to: `end` is the last line, and any other is added.
unfoldable pub leads : Said → Entry → Judged Said
leads s e = cond (eqb (kind_of e) end_kind) ends (goes (added s e))

-- What is asked of a line on its own bytes and on the lines above it, and what it says.
unfoldable pub line_asked : Said → List ℕ → Asked
line_asked s line = asked (counts_of s) s.roles s.users (line_of (split 9 line))

-- Its tests: those of any line, then that a has pair is new, which is malformed where it is not.
unfoldable pub line_tests : Said → List ℕ → List Test
line_tests s line = let a = line_asked s line in tests a.formed a.within a.known ++ (test 11 (is_new s.holdings a.says) ∷ [])

-- A line, judged by its tests in turn.
unfoldable pub judge_line : Said → List ℕ → Judged Said
judge_line s line = in_turn bad (line_tests s line) (leads s (line_asked s line).says)

-- The whole text: 10 where it is too long, 11 where `end` is missing or not the last line.
unfoldable pub read_policy : List ℕ → Reading Said
read_policy text = read_text judge_line 11 10 nothing text
