-- Who joins with a name that is not known: what is said with that name and its person, and that a run keeps a person for each name.
use Rattle.std.specs.Prelude.{ℕ, ◌≤◌, ◌<◌, Bool, cond, List, [], ◌∷◌, ◌++◌, ◌≡◌, refl, ltb, length}
use Rattle.std.proofs.Math.Bool.{true, false}
use Rattle.std.proofs.Math.Path.{sym, ap}
use Rattle.std.proofs.Common.{◌∙◌, length-append, arith}
use borrow.Author.Tests.{eqb-true, ltb-false, lt-ltb, le-ltb}
use Rattle.model.specs.Policy.{Policy, State, joined}
use Rattle.tables.specs.declared.Name.{Name}
use Rattle.ledgers.specs.PartLaws.{rows_length}
use Rattle.ledgers.specs.Ledger.{user_names}
use Rattle.lines.specs.declared.Counts.{Counts}
use Rattle.lines.specs.declared.Entry.{Entry}
use Rattle.lines.specs.Lines.{user_kind}
use Rattle.reading.specs.Policy.{Said, counts_of, kind_of, noted, added}
use Rattle.reading.specs.Ledger.{ledger_says, Limited}
use Rattle.reading.specs.LedgerLaws.{ledger_counts}
use Rattle.steps.specs.declared.Step.{Step}
use Rattle.steps.specs.Traces.{possible, after}
use Rattle.traces.specs.TraceText.{with_name}
use Rattle.running.specs.Range.{Room}
use Rattle.running.specs.Trying.{changed}

-- What is said with who joins by a step with a name: where the name is not known, it is entered as a user's is.
unfoldable pub with_new : Said → Step → Name → Said
with_new s (Step.Assign actor rule user) name = s
with_new s (Step.Revoke actor rule user) name = s
with_new s (Step.Join user clearance) name = cond (ltb user (length s.users)) s (added s (Entry.User name clearance))
with_new s (Step.Leave user) name = s

-- over what a ledger says: the name is known, or it is entered
module _ (words : List ℕ) (c : Counts) (user : ℕ) (clearance : Bool) (name : Name) where
  pub name_known : user < c.users → ledger_says words c ≡ with_new (ledger_says words c) (Step.Join user clearance) name
  unfolding ledger_says with_new
  name_known here = rw (rows_length user_names words c.users, lt-ltb user c.users here)

  pub name_entered : c.users ≤ user → added (ledger_says words c) (Entry.User name clearance) ≡ with_new (ledger_says words c) (Step.Join user clearance) name
  unfolding ledger_says with_new
  name_entered past = rw (rows_length user_names words c.users, le-ltb user c.users past)

-- What a policy says, with these names known and these people.
abbrev pub saying : Said → (stage : ℕ) → List Name → State → Said
saying s stage names σ = record { stage = stage; roles = s.roles; users = names; holdings = σ; assigns = s.assigns; revokes = s.revokes; goals = s.goals }

-- The people with who joins by a step whose name is not known.
unfoldable pub with_person : List Name → State → Step → State
with_person names σ (Step.Assign actor rule user) = σ
with_person names σ (Step.Revoke actor rule user) = σ
with_person names σ (Step.Join user clearance) = cond (ltb user (length names)) σ (joined σ clearance)
with_person names σ (Step.Leave user) = σ

module _ (s : Said) (stage : ℕ) (names : List Name) (σ : State) where
  -- both are added
  pub saying_new : (step : Step) (name : Name) → (next : ℕ) × (with_new (saying s stage names σ) step name ≡ saying s next (with_name names step name) (with_person names σ step))
  unfolding with_new with_name with_person added noted kind_of
  saying_new (Step.Assign actor rule user) name = (stage, refl)
  saying_new (Step.Revoke actor rule user) name = (stage, refl)
  saying_new (Step.Join user clearance) name = go (ltb user (length names))
    where
      go : (b : Bool) → (next : ℕ) × (cond b (saying s stage names σ) (added (saying s stage names σ) (Entry.User name clearance)) ≡ saying s next (cond b names (names ++ (name ∷ []))) (cond b σ (joined σ clearance)))
      go true = (stage, refl)
      go false = (user_kind, refl)
  saying_new (Step.Leave user) name = (stage, refl)

-- a step that is possible, with who joins, leads to the state after it
pub person-after : (P : Policy) (names : List Name) (σ : State) (step : Step) → length σ ≡ length names → possible P σ step ≡ true → with_person names (changed P σ step) step ≡ after P σ step
unfolding with_person changed after possible
person-after P names σ (Step.Assign actor rule user) many is = refl
person-after P names σ (Step.Revoke actor rule user) many is = refl
person-after P names σ (Step.Join user clearance) many is =
    let place = eqb-true user (length σ) is in
    rw (le-ltb user (length names) (omega (arith, many, place)))
person-after P names σ (Step.Leave user) many is = refl

-- with a name more there are no more than 64
pub names_within : (names : List Name) (step : Step) (name : Name) → length names ≤ 64 → Room (length names) step → length (with_name names step name) ≤ 64
unfolding with_name
names_within names (Step.Assign actor rule user) name few room = few
names_within names (Step.Revoke actor rule user) name few room = few
names_within names (Step.Join user clearance) name few room = go (ltb user (length names)) refl
  where
    go : (b : Bool) → ltb user (length names) ≡ b → length (cond b names (names ++ (name ∷ []))) ≤ 64
    go true known = few
    go false new = omega (arith, room (ltb-false user (length names) new), length-append names (name ∷ []))
names_within names (Step.Leave user) name few room = few

-- counts that say so are within the limits
module _ (s : Said) (words left : List ℕ) (c d : Counts) where
  pub saying_limited : (stage next : ℕ) (names more : List Name) (σ τ : State) → Limited c → ledger_says words c ≡ saying s stage names σ → ledger_says left d ≡ saying s next more τ → length more ≤ 64 → Limited d
  unfolding counts_of
  saying_limited stage next names more σ τ limited says now few =
      let before : c ≡ counts_of (saying s stage names σ) = sym (ledger_counts words c) ∙ ap counts_of says in
      let is : d ≡ counts_of (saying s next more τ) = sym (ledger_counts left d) ∙ ap counts_of now in
      record {
        roles = omega (arith, limited.roles, ap (λ (x : Counts). x.roles) before, ap (λ (x : Counts). x.roles) is);
        users = omega (arith, few, ap (λ (x : Counts). x.users) is);
        assigns = omega (arith, limited.assigns, ap (λ (x : Counts). x.assigns) before, ap (λ (x : Counts). x.assigns) is);
        revokes = omega (arith, limited.revokes, ap (λ (x : Counts). x.revokes) before, ap (λ (x : Counts). x.revokes) is);
        goals = omega (arith, limited.goals, ap (λ (x : Counts). x.goals) before, ap (λ (x : Counts). x.goals) is);
      }
