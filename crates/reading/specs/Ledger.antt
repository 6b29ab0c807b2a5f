-- What a ledger says of a policy, by the counts of what was entered in it.
use Rattle.std.specs.Prelude.{ℕ, ◌≤◌, List}
use Rattle.ledgers.specs.Parts.{rows_in}
use Rattle.ledgers.specs.Ledger.{role_names, user_names, people, assign_rules, revoke_rules, goal_sets}
use Rattle.lines.specs.declared.Counts.{Counts}
use Rattle.reading.specs.Policy.{Said}

-- As many rows of each part as the counts say. A person stands beside each user name.
unfoldable pub ledger_says : List ℕ → Counts → Said
ledger_says words c = record {
  stage = c.stage;
  roles = rows_in role_names words c.roles;
  users = rows_in user_names words c.users;
  holdings = rows_in people words c.users;
  assigns = rows_in assign_rules words c.assigns;
  revokes = rows_in revoke_rules words c.revokes;
  goals = rows_in goal_sets words c.goals;
}

-- No count is above its limit.
pub record Limited (c : Counts) : Type 0 where
  pub roles : c.roles ≤ 128
  pub users : c.users ≤ 64
  pub assigns : c.assigns ≤ 256
  pub revokes : c.revokes ≤ 256
  pub goals : c.goals ≤ 32
