-- A ledger says as much as its counts tell, and a line is judged over what it says.
use Rattle.std.specs.Prelude.{ℕ, ◌-◌, Bool, Result, Ok, Err, ◌≡◌, length, take, drop}
use Rattle.std.proofs.Math.Bool.{cond}
use mathlib.Core.List.{List}
use Rattle.std.proofs.Math.Path.{sym, ap, ap₂}
use Rattle.std.proofs.Common.{◌∙◌, arith}
use Rattle.tables.specs.declared.Name.{Name}
use Rattle.tables.specs.Names.{rows}
use Rattle.tables.specs.NameLaws.{rows_length as rows-many}
use Rattle.ledgers.specs.Parts.{rows_in}
use Rattle.ledgers.specs.PartLaws.{rows_length}
use Rattle.ledgers.specs.Ledger.{role_names, user_names, people, assign_rules, revoke_rules, goal_sets}
use Rattle.ledgers.specs.LedgerLaws.{roles-rows, users_lent}
use Rattle.lines.specs.declared.Entry.{Entry}
use Rattle.walking.specs.declared.Fault.{Fault}
use Rattle.lines.specs.Lines.{policy_line}
use Rattle.lines.specs.LineLaws.{Fitting, good_fits, line_good}
use Rattle.lines.specs.declared.Counts.{Counts}
use Rattle.reading.specs.Policy.{Said, counts_of, is_new}
use Rattle.reading.specs.Answer.{once, line_answer}
use Rattle.reading.specs.Sound.{Sound}
use Rattle.reading.specs.Ledger.{ledger_says, Limited}

pub ledger_counts : (words : List ℕ) (c : Counts) → counts_of (ledger_says words c) ≡ c
unfolding counts_of ledger_says
ledger_counts words c = λ i. record {
  stage = c.stage;
  roles = rows_length role_names words c.roles i;
  users = rows_length user_names words c.users i;
  assigns = rows_length assign_rules words c.assigns i;
  revokes = rows_length revoke_rules words c.revokes i;
  goals = rows_length goal_sets words c.goals i;
}

-- the counts of a policy that is read are within the limits
pub counts_limited : {s : Said} {c : Counts} → c ≡ counts_of s → Sound s → Limited c
unfolding counts_of
counts_limited {s} {c} is sound = record {
  roles = omega (arith, ap (λ (d : Counts). d.roles) is, sound.roles.most);
  users = omega (arith, ap (λ (d : Counts). d.users) is, sound.users.most);
  assigns = omega (arith, ap (λ (d : Counts). d.assigns) is, sound.assigns.most);
  revokes = omega (arith, ap (λ (d : Counts). d.revokes) is, sound.revokes.most);
  goals = omega (arith, ap (λ (d : Counts). d.goals) is, sound.goals.most);
}

-- ---- a line over what a ledger says

module _ (words : List ℕ) (c : Counts) (line : List ℕ) {answer : Result Entry Fault} (given : answer ≡ policy_line c (rows c.roles words) (rows c.users (take (length words - 512) (drop 512 words))) line) where
  -- the tables of names are the names that it says
  said_line : answer ≡ policy_line (counts_of (ledger_says words c)) (ledger_says words c).roles (ledger_says words c).users line
  unfolding ledger_says
  said_line =
      given ∙ ap₂ (λ (roles users : List Name). policy_line c roles users line) (roles-rows words c.roles) (users_lent words c.users)
      ∙ ap (λ (d : Counts). policy_line d (rows_in role_names words c.roles) (rows_in user_names words c.users) line) (sym (ledger_counts words c))

  line_over : once (ledger_says words c).holdings answer ≡ line_answer (ledger_says words c) line
  unfolding line_answer
  line_over = ap (once (ledger_says words c).holdings) said_line

  -- a line that is not good
  pub line_bad : {fault : Fault} → answer ≡ Err fault → Err fault ≡ line_answer (ledger_says words c) line
  unfolding once
  line_bad bad = sym (ap (once (ledger_says words c).holdings) bad) ∙ line_over

  module _ {e : Entry} (good : answer ≡ Ok e) where
    -- there is room for the entry of a good one
    pub line_fits : Fitting c e
    line_fits = good_fits (rows-many c.users _) (line_good c _ _ line (sym given ∙ good))

    -- it is new, or stands above already
    module _ {new : Bool} (is : new ≡ is_new (rows_in people words c.users) e) where
      once_as : once (ledger_says words c).holdings (Ok e) ≡ cond new (Ok e) (Err Fault.Malformed)
      unfolding once ledger_says
      once_as = ap (λ (b : Bool). cond b (Ok e) (Err Fault.Malformed)) (sym is)

      pub line_once : cond new (Ok e) (Err Fault.Malformed) ≡ line_answer (ledger_says words c) line
      line_once = sym once_as ∙ sym (ap (once (ledger_says words c).holdings) good) ∙ line_over
