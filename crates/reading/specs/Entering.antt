-- What a ledger says once a line's entry is stored in it: what it said before, with the entry added.
use Prim.Native.Nat.{ℕ, ◌+◌, ◌*◌, ◌≤◌, ◌<◌}
use Rattle.std.specs.Prelude.{Bool, ◌⊎◌, ◌≡◌}
use mathlib.Core.List.{List, [], ◌∷◌, ◌++◌}
use Rattle.std.proofs.Common.{inl, inr, ⊎_elim, sym, ◌∙◌, arith}
use Rattle.std.proofs.Math.Path.{ap}
use Rattle.std.proofs.Math.ListN.{length, set}
use Rattle.std.proofs.lemmas.List.Edits.{sets}
use Rattle.std.proofs.Math.Seq.{length-sets}
use Rattle.roles.specs.declared.RoleSet.{RoleSet}
use Rattle.model.specs.declared.Assign.{Assign}
use Rattle.model.specs.declared.Revoke.{Revoke}
use Rattle.model.specs.declared.Person.{Person}
use Rattle.model.specs.Policy.{newcomer, nobody, person, with_role, granted, joined}
use Rattle.tables.specs.declared.Name.{Name}
use Rattle.ledgers.specs.Parts.{row_at, stored, rows_in}
use Rattle.ledgers.specs.Ledger.{ledger_words, role_names, user_names, people, assign_rules, revoke_rules, goal_sets}
use Rattle.ledgers.specs.PartLaws.{rows_at, rows_beside, rows_changed, rows_more}
use Rattle.ledgers.specs.LedgerLaws.{roles_faithful, users_faithful, people_faithful, assigns_faithful, revokes_faithful, goals_faithful}
use Rattle.lines.specs.declared.Counts.{Counts}
use Rattle.lines.specs.declared.Entry.{Entry}
use Rattle.lines.specs.Lines.{role_kind, user_kind, has_kind, assign_kind, revoke_kind, goal_kind}
use Rattle.reading.specs.Policy.{kind_of, noted, added}
use Rattle.reading.specs.Ledger.{ledger_says, Limited}

-- ---- the parts that a run of stores leaves as they were

module _ (words : List ℕ) (c : Counts) (l : Limited c) (at : ℕ) (row : List ℕ) where
  roles_stay : 512 ≤ at → rows_in role_names (sets words at row) c.roles ≡ rows_in role_names words c.roles
  roles_stay past = rows_beside role_names roles_faithful words at row c.roles (inr (omega (arith, l.roles)))

  users_stay : (at + length row ≤ 512) ⊎ (768 ≤ at) → rows_in user_names (sets words at row) c.users ≡ rows_in user_names words c.users
  users_stay apart = rows_beside user_names users_faithful words at row c.users (⊎_elim inl (λ past. inr (omega (arith, l.users))) apart)

  people_stay : (at + length row ≤ 768) ⊎ (960 ≤ at) → rows_in people (sets words at row) c.users ≡ rows_in people words c.users
  people_stay apart = rows_beside people people_faithful words at row c.users (⊎_elim inl (λ past. inr (omega (arith, l.users))) apart)

  assigns_stay : (at + length row ≤ 960) ⊎ (2496 ≤ at) → rows_in assign_rules (sets words at row) c.assigns ≡ rows_in assign_rules words c.assigns
  assigns_stay apart = rows_beside assign_rules assigns_faithful words at row c.assigns (⊎_elim inl (λ past. inr (omega (arith, l.assigns))) apart)

  revokes_stay : (at + length row ≤ 2496) ⊎ (3008 ≤ at) → rows_in revoke_rules (sets words at row) c.revokes ≡ rows_in revoke_rules words c.revokes
  revokes_stay apart = rows_beside revoke_rules revokes_faithful words at row c.revokes (⊎_elim inl (λ past. inr (omega (arith, l.revokes))) apart)

  goals_stay : at + length row ≤ 3008 → rows_in goal_sets (sets words at row) c.goals ≡ rows_in goal_sets words c.goals
  goals_stay before = rows_beside goal_sets goals_faithful words at row c.goals (inl before)

-- ---- each kind of entry

module _ (words : List ℕ) (c : Counts) (room : ledger_words ≤ length words) (l : Limited c) where
  pub role_entered : (name : Name) → c.roles < 128
      → ledger_says (stored role_names words c.roles name) (record { stage = role_kind; roles = c.roles + 1; users = c.users; assigns = c.assigns; revokes = c.revokes; goals = c.goals }) ≡ added (ledger_says words c) (Entry.Role name)
  unfolding ledger_says added noted kind_of
  role_entered name free =
      let at = 0 + 4 * c.roles in
      λ i. record {
        stage = role_kind;
        roles = rows_more role_names roles_faithful words c.roles name (omega arith) i;
        users = users_stay words c l at (role_names.rows.row name) (inl (omega arith)) i;
        holdings = people_stay words c l at (role_names.rows.row name) (inl (omega arith)) i;
        assigns = assigns_stay words c l at (role_names.rows.row name) (inl (omega arith)) i;
        revokes = revokes_stay words c l at (role_names.rows.row name) (inl (omega arith)) i;
        goals = goals_stay words c l at (role_names.rows.row name) (omega arith) i;
      }

  pub user_entered : (name : Name) (clearance : Bool) → c.users < 64
      → ledger_says (stored people (stored user_names words c.users name) c.users (newcomer clearance)) (record { stage = user_kind; roles = c.roles; users = c.users + 1; assigns = c.assigns; revokes = c.revokes; goals = c.goals })
      ≡ added (ledger_says words c) (Entry.User name clearance)
  unfolding ledger_says added noted kind_of joined
  user_entered name clearance free =
      let at = 512 + 4 * c.users in
      let there = 768 + 3 * c.users in
      let new : Person = newcomer clearance in
      let named : List ℕ = stored user_names words c.users name in
      let long : length named ≡ length words = length-sets words at (user_names.rows.row name) in
      λ i. record {
        stage = user_kind;
        roles = (roles_stay named c l there (people.rows.row new) (omega arith) ∙ roles_stay words c l at (user_names.rows.row name) (omega arith)) i;
        users = (rows_beside user_names users_faithful named there (people.rows.row new) (c.users + 1) (inr (omega arith)) ∙ rows_more user_names users_faithful words c.users name (omega arith)) i;
        holdings = (rows_more people people_faithful named c.users new (omega arith) ∙ ap (λ (σ : List Person). σ ++ (new ∷ [])) (people_stay words c l at (user_names.rows.row name) (inl (omega arith)))) i;
        assigns = (assigns_stay named c l there (people.rows.row new) (inl (omega arith)) ∙ assigns_stay words c l at (user_names.rows.row name) (inl (omega arith))) i;
        revokes = (revokes_stay named c l there (people.rows.row new) (inl (omega arith)) ∙ revokes_stay words c l at (user_names.rows.row name) (inl (omega arith))) i;
        goals = (goals_stay named c l there (people.rows.row new) (omega arith) ∙ goals_stay words c l at (user_names.rows.row name) (omega arith)) i;
      }

  pub has_entered : (holder held : ℕ) → holder < c.users
      → ledger_says (stored people words holder (with_role (row_at people words holder) held)) (record { stage = has_kind; roles = c.roles; users = c.users; assigns = c.assigns; revokes = c.revokes; goals = c.goals }) ≡ added (ledger_says words c) (Entry.Has holder held)
  unfolding ledger_says added noted kind_of granted person
  has_entered holder held listed =
      let at = 768 + 3 * holder in
      let new : Person = with_role (row_at people words holder) held in
      λ i. record {
        stage = has_kind;
        roles = roles_stay words c l at (people.rows.row new) (omega arith) i;
        users = users_stay words c l at (people.rows.row new) (inr (omega arith)) i;
        holdings = (rows_changed people people_faithful words holder new (omega (arith, l.users)) c.users listed ∙ ap (λ (p : Person). set (rows_in people words c.users) holder (with_role p held)) (sym (rows_at people words c.users holder nobody listed))) i;
        assigns = assigns_stay words c l at (people.rows.row new) (inl (omega (arith, l.users))) i;
        revokes = revokes_stay words c l at (people.rows.row new) (inl (omega (arith, l.users))) i;
        goals = goals_stay words c l at (people.rows.row new) (omega (arith, l.users)) i;
      }

  pub assign_entered : (rule : Assign) → c.assigns < 256
      → ledger_says (stored assign_rules words c.assigns rule) (record { stage = assign_kind; roles = c.roles; users = c.users; assigns = c.assigns + 1; revokes = c.revokes; goals = c.goals }) ≡ added (ledger_says words c) (Entry.Assign rule)
  unfolding ledger_says added noted kind_of
  assign_entered rule free =
      let at = 960 + 6 * c.assigns in
      λ i. record {
        stage = assign_kind;
        roles = roles_stay words c l at (assign_rules.rows.row rule) (omega arith) i;
        users = users_stay words c l at (assign_rules.rows.row rule) (inr (omega arith)) i;
        holdings = people_stay words c l at (assign_rules.rows.row rule) (inr (omega arith)) i;
        assigns = rows_more assign_rules assigns_faithful words c.assigns rule (omega arith) i;
        revokes = revokes_stay words c l at (assign_rules.rows.row rule) (inl (omega arith)) i;
        goals = goals_stay words c l at (assign_rules.rows.row rule) (omega arith) i;
      }

  pub revoke_entered : (rule : Revoke) → c.revokes < 256
      → ledger_says (stored revoke_rules words c.revokes rule) (record { stage = revoke_kind; roles = c.roles; users = c.users; assigns = c.assigns; revokes = c.revokes + 1; goals = c.goals }) ≡ added (ledger_says words c) (Entry.Revoke rule)
  unfolding ledger_says added noted kind_of
  revoke_entered rule free =
      let at = 2496 + 2 * c.revokes in
      λ i. record {
        stage = revoke_kind;
        roles = roles_stay words c l at (revoke_rules.rows.row rule) (omega arith) i;
        users = users_stay words c l at (revoke_rules.rows.row rule) (inr (omega arith)) i;
        holdings = people_stay words c l at (revoke_rules.rows.row rule) (inr (omega arith)) i;
        assigns = assigns_stay words c l at (revoke_rules.rows.row rule) (inr (omega arith)) i;
        revokes = rows_more revoke_rules revokes_faithful words c.revokes rule (omega arith) i;
        goals = goals_stay words c l at (revoke_rules.rows.row rule) (omega arith) i;
      }

  pub goal_entered : (goal : RoleSet) → c.goals < 32
      → ledger_says (stored goal_sets words c.goals goal) (record { stage = goal_kind; roles = c.roles; users = c.users; assigns = c.assigns; revokes = c.revokes; goals = c.goals + 1 }) ≡ added (ledger_says words c) (Entry.Goal goal)
  unfolding ledger_says added noted kind_of
  goal_entered goal free =
      let at = 3008 + 2 * c.goals in
      λ i. record {
        stage = goal_kind;
        roles = roles_stay words c l at (goal_sets.rows.row goal) (omega arith) i;
        users = users_stay words c l at (goal_sets.rows.row goal) (inr (omega arith)) i;
        holdings = people_stay words c l at (goal_sets.rows.row goal) (inr (omega arith)) i;
        assigns = assigns_stay words c l at (goal_sets.rows.row goal) (inr (omega arith)) i;
        revokes = revokes_stay words c l at (goal_sets.rows.row goal) (inr (omega arith)) i;
        goals = rows_more goal_sets goals_faithful words c.goals goal (omega arith) i;
      }
