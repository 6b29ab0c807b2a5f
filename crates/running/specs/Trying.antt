-- A step tried: whether it is possible, and what is said after it; over the rows of a ledger, and over what the ledger says.
use Prim.Native.Nat.{ℕ, ◌+◌, ◌*◌, ◌≤◌, ◌<◌}
use borrow.Author.Tests.{lt-ltb}
use Rattle.std.specs.Prelude.{Bool, cond, List, Option, Some, None, ◌≡◌, eqb, length, set}
use Rattle.std.specs.Bool.{then_some}
use Rattle.std.specs.Option.{is_some}
use Rattle.std.proofs.Math.Bool.{true, false, false≢true}
use Rattle.std.proofs.Common.{inl, inr, ◌∙◌, arith}
use Rattle.std.proofs.Math.Path.{refl, sym, ap}
use Rattle.model.specs.declared.Person.{Person}
use Rattle.model.specs.Policy.{Policy, no_assign, no_revoke, State, nobody, person, with_role, without_role, granted, revoked, leaver, departed}
use Rattle.ledgers.specs.Parts.{row_at, stored}
use Rattle.ledgers.specs.PartLaws.{rows_length, rows_at, rows_changed, rows_beside}
use Rattle.ledgers.specs.Ledger.{ledger_words, role_names, user_names, people, assign_rules, revoke_rules, goal_sets}
use Rattle.ledgers.specs.LedgerLaws.{roles_faithful, users_faithful, people_faithful, assigns_faithful, revokes_faithful, goals_faithful}
use Rattle.lines.specs.declared.Counts.{Counts}
use Rattle.reading.specs.Policy.{Said, policy_of, say_holdings}
use Rattle.reading.specs.Ledger.{ledger_says, Limited}
use Rattle.steps.specs.declared.Step.{Step}
use Rattle.steps.specs.Tests.{may_assign, may_revoke}
use Rattle.steps.specs.Traces.{assign_at, revoke_at, possible, after}
use Rattle.running.specs.Range.{InRange}

-- ---- a step over the rows of a ledger

-- Whether the actor may use the rule on the user; whether the user may leave; and the user afterwards.
abbrev pub may_assign_in : List ℕ → (actor rule user : ℕ) → Bool
may_assign_in words actor rule user = may_assign (row_at assign_rules words rule) (row_at people words actor) (row_at people words user)

abbrev pub assigned_in : List ℕ → (rule user : ℕ) → Person
assigned_in words rule user = with_role (row_at people words user) (row_at assign_rules words rule).target

abbrev pub may_revoke_in : List ℕ → (actor rule user : ℕ) → Bool
may_revoke_in words actor rule user = may_revoke (row_at revoke_rules words rule) (row_at people words actor) (row_at people words user)

abbrev pub revoked_in : List ℕ → (rule user : ℕ) → Person
revoked_in words rule user = without_role (row_at people words user) (row_at revoke_rules words rule).target

abbrev pub may_leave_in : List ℕ → ℕ → Bool
may_leave_in words user = (row_at people words user).present

abbrev pub left_in : List ℕ → ℕ → Person
left_in words user = leaver (row_at people words user)

-- The rows with a person stored at a place, where there is one.
abbrev pub stored_at : List ℕ → (place : ℕ) → Option Person → List ℕ
stored_at words place None = words
stored_at words place (Some p) = stored people words place p

-- The answer is whether there is such a person, who is then stored at a place.
pub record Stored (changed : Option Person) (words : List ℕ) (place : ℕ) (answer : Bool) (left : List ℕ) : Type 0 where
  pub answered : answer ≡ is_some changed
  pub leaves : left ≡ stored_at words place changed

-- there is one where a test holds
some-then : {A : Type 0} (test : Bool) (a : A) → is_some (then_some test a) ≡ test
some-then true a = refl
some-then false a = refl

-- ---- a step over what is said

-- What a step makes of those who are here: who joins comes with a name, and is entered with it.
unfoldable pub changed : Policy → State → Step → State
changed P σ (Step.Assign actor rule user) = after P σ (Step.Assign actor rule user)
changed P σ (Step.Revoke actor rule user) = after P σ (Step.Revoke actor rule user)
changed P σ (Step.Join user clearance) = σ
changed P σ (Step.Leave user) = after P σ (Step.Leave user)

-- The answer is whether the step is possible; what is said then is the same but for the people: they are those whom it changed, or stay.
pub record Tried (s : Said) (step : Step) (answer : Bool) (left : Said) : Type 0 where
  pub answered : answer ≡ possible (policy_of s) s.holdings step
  pub leaves : left ≡ say_holdings (cond answer (changed (policy_of s) s.holdings step) s.holdings) s

-- The number of the first step that is none, where this one has a number: the one found before, where there is one.
unfoldable pub next_broken : (broken : Option ℕ) (number : ℕ) (is-possible : Bool) → Option ℕ
next_broken None number is-possible = cond is-possible None (Some number)
next_broken (Some before) number is-possible = Some before

-- The people then: those whom the step changed, where it and every step before it is one, and else those who were there.
unfoldable pub next_people : (broken : Option ℕ) (is-possible : Bool) (changed stay : State) → State
next_people None is-possible changed stay = cond is-possible changed stay
next_people (Some before) is-possible changed stay = stay

-- The step with a number is tried, unless a step before it was none.
pub record TriedNext (s : Said) (broken : Option ℕ) (number : ℕ) (step : Step) (answer : Option ℕ) (left : Said) : Type 0 where
  pub answered : answer ≡ next_broken broken number (possible (policy_of s) s.holdings step)
  pub leaves : left ≡ say_holdings (next_people broken (possible (policy_of s) s.holdings step) (changed (policy_of s) s.holdings step) s.holdings) s

-- a step before it was none; it is one; it is none
module _ {s : Said} {broken : Option ℕ} (number : ℕ) (step : Step) where
  pub next_past : is_some broken ≡ true → TriedNext s broken number step broken s
  unfolding next_broken next_people
  next_past some = go broken some
    where
      go : (o : Option ℕ) → is_some o ≡ true → TriedNext s o number step o s
      go None is = absurd (false≢true is)
      go (Some before) is = record { answered = refl; leaves = refl }

  module _ {may : Bool} {left : Said} (none : is_some broken ≡ false) (tried : Tried s step may left) where
    tried_as : {b : Bool} → may ≡ b → TriedNext s broken number step (cond b None (Some number)) left
    unfolding next_broken next_people
    tried_as {b} is = go broken none
      where
        same : possible (policy_of s) s.holdings step ≡ b
        same = sym tried.answered ∙ is

        go : (o : Option ℕ) → is_some o ≡ false → TriedNext s o number step (cond b None (Some number)) left
        go None e =
            let moved = changed (policy_of s) s.holdings step in
            record {
              answered = sym (ap (next_broken None number) same);
              leaves = tried.leaves ∙ ap (λ (x : Bool). say_holdings (cond x moved s.holdings) s) (is ∙ sym same);
            }
        go (Some before) e = absurd (false≢true (sym e))

    pub next_goes : may ≡ true → TriedNext s broken number step None left
    next_goes is = tried_as is

    pub next_breaks : may ≡ false → TriedNext s broken number step (Some number) left
    next_breaks is = tried_as is

-- the policy and the state that a ledger says by its counts
abbrev policy_in : List ℕ → Counts → Policy
policy_in words c = policy_of (ledger_says words c)

abbrev state_in : List ℕ → Counts → State
state_in words c = (ledger_says words c).holdings

-- a person stored in the place of another, and all else stays
person-stored : (words : List ℕ) → ledger_words ≤ length words → (c : Counts) → Limited c → (place : ℕ) (p : Person) → place < c.users
    → ledger_says (stored people words place p) c ≡ say_holdings (set (state_in words c) place p) (ledger_says words c)
unfolding ledger_says
person-stored words room c limited place p inside =
    let at = people.from + people.rows.width * place in
    λ i. record {
      stage = c.stage;
      roles = rows_beside role_names roles_faithful words at (people.rows.row p) c.roles (inr (omega arith)) i;
      users = rows_beside user_names users_faithful words at (people.rows.row p) c.users (inr (omega arith)) i;
      holdings = rows_changed people people_faithful words place p (omega arith) c.users inside i;
      assigns = rows_beside assign_rules assigns_faithful words at (people.rows.row p) c.assigns (inl (omega arith)) i;
      revokes = rows_beside revoke_rules revokes_faithful words at (people.rows.row p) c.revokes (inl (omega arith)) i;
      goals = rows_beside goal_sets goals_faithful words at (people.rows.row p) c.goals (inl (omega arith)) i;
    }

module _ (words : List ℕ) (room : ledger_words ≤ length words) (c : Counts) (limited : Limited c) where
  -- a step whose test is that of the rows, and which changes the person at a place
  tried_by : (step : Step) {test answer : Bool} {now : Option Person} {left : List ℕ} (place : ℕ) (p : Person) → place < c.users → possible (policy_in words c) (state_in words c) step ≡ test
      → changed (policy_in words c) (state_in words c) step ≡ set (state_in words c) place p → now ≡ then_some test p → Stored now words place answer left → Tried (ledger_says words c) step answer (ledger_says left c)
  tried_by step {test} {answer} place p inside is changes made kept =
      let told : answer ≡ test = kept.answered ∙ ap is_some made ∙ some-then test p in
      record {
        answered = told ∙ sym is;
        leaves = ap (λ (l : List ℕ). ledger_says l c) (kept.leaves ∙ ap (stored_at words place) made) ∙ go test ∙ ap (λ (b : Bool). say_holdings (cond b (changed (policy_in words c) (state_in words c) step) (state_in words c)) (ledger_says words c)) (sym told);
      }
    where
      go : (b : Bool) → ledger_says (stored_at words place (then_some b p)) c ≡ say_holdings (cond b (changed (policy_in words c) (state_in words c) step) (state_in words c)) (ledger_says words c)
      go true = person-stored words room c limited place p inside ∙ sym (ap (λ (σ : State). say_holdings σ (ledger_says words c)) changes)
      go false = refl

  module _ {actor rule user : ℕ} where
    assign_may : InRange c.assigns c.users actor rule user → possible (policy_in words c) (state_in words c) (Step.Assign actor rule user) ≡ may_assign_in words actor rule user
    unfolding ledger_says policy_of possible assign_at person
    assign_may r =
        rw (rows_length assign_rules words c.assigns, rows_length people words c.users, lt-ltb rule c.assigns r.ruled, lt-ltb actor c.users r.acts, lt-ltb user c.users r.used)
        (rw (rows_at assign_rules words c.assigns rule no_assign r.ruled, rows_at people words c.users actor nobody r.acts, rows_at people words c.users user nobody r.used))

    assign_after : InRange c.assigns c.users actor rule user → changed (policy_in words c) (state_in words c) (Step.Assign actor rule user) ≡ set (state_in words c) user (assigned_in words rule user)
    unfolding ledger_says policy_of changed after granted assign_at person
    assign_after r = rw (rows_at assign_rules words c.assigns rule no_assign r.ruled, rows_at people words c.users user nobody r.used)

    pub assign_tried : InRange c.assigns c.users actor rule user → {now : Option Person} {answer : Bool} {left : List ℕ} → now ≡ then_some (may_assign_in words actor rule user) (assigned_in words rule user) → Stored now words user answer left
        → Tried (ledger_says words c) (Step.Assign actor rule user) answer (ledger_says left c)
    assign_tried r made kept = tried_by (Step.Assign actor rule user) user (assigned_in words rule user) r.used (assign_may r) (assign_after r) made kept

    revoke_may : InRange c.revokes c.users actor rule user → possible (policy_in words c) (state_in words c) (Step.Revoke actor rule user) ≡ may_revoke_in words actor rule user
    unfolding ledger_says policy_of possible revoke_at person
    revoke_may r =
        rw (rows_length revoke_rules words c.revokes, rows_length people words c.users, lt-ltb rule c.revokes r.ruled, lt-ltb actor c.users r.acts, lt-ltb user c.users r.used)
        (rw (rows_at revoke_rules words c.revokes rule no_revoke r.ruled, rows_at people words c.users actor nobody r.acts, rows_at people words c.users user nobody r.used))

    revoke_after : InRange c.revokes c.users actor rule user → changed (policy_in words c) (state_in words c) (Step.Revoke actor rule user) ≡ set (state_in words c) user (revoked_in words rule user)
    unfolding ledger_says policy_of changed after revoked revoke_at person
    revoke_after r = rw (rows_at revoke_rules words c.revokes rule no_revoke r.ruled, rows_at people words c.users user nobody r.used)

    pub revoke_tried : InRange c.revokes c.users actor rule user → {now : Option Person} {answer : Bool} {left : List ℕ} → now ≡ then_some (may_revoke_in words actor rule user) (revoked_in words rule user) → Stored now words user answer left
        → Tried (ledger_says words c) (Step.Revoke actor rule user) answer (ledger_says left c)
    revoke_tried r made kept = tried_by (Step.Revoke actor rule user) user (revoked_in words rule user) r.used (revoke_may r) (revoke_after r) made kept

  module _ {user : ℕ} where
    leave_may : user < c.users → possible (policy_in words c) (state_in words c) (Step.Leave user) ≡ may_leave_in words user
    unfolding ledger_says policy_of possible person
    leave_may here = rw (rows_length people words c.users, lt-ltb user c.users here) (rw (rows_at people words c.users user nobody here))

    leave_after : user < c.users → changed (policy_in words c) (state_in words c) (Step.Leave user) ≡ set (state_in words c) user (left_in words user)
    unfolding ledger_says policy_of changed after departed person
    leave_after here = rw (rows_at people words c.users user nobody here)

    pub leave_tried : user < c.users → {now : Option Person} {answer : Bool} {left : List ℕ} → now ≡ then_some (may_leave_in words user) (left_in words user) → Stored now words user answer left → Tried (ledger_says words c) (Step.Leave user) answer (ledger_says left c)
    leave_tried here made kept = tried_by (Step.Leave user) user (left_in words user) here (leave_may here) (leave_after here) made kept

    -- nobody who is here is changed by a join
    pub join_tried : (clearance : Bool) → Tried (ledger_says words c) (Step.Join user clearance) (eqb user c.users) (ledger_says words c)
    unfolding ledger_says possible changed
    join_tried clearance = record { answered = sym (ap (eqb user) (rows_length people words c.users)); leaves = go (eqb user c.users) }
      where
        go : (b : Bool) → ledger_says words c ≡ say_holdings (cond b (state_in words c) (state_in words c)) (ledger_says words c)
        go true = refl
        go false = refl
