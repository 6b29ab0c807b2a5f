-- What holds between two lines while a trace is run: the steps so far, the run of them, what the ledger says, and that the rest of the text decides.
use Prim.Native.Nat.{ℕ, suc, ◌+◌, ◌≤◌, ◌<◌, zero-le}
use Rattle.std.specs.Prelude.{Bool, ◌≡◌, Option, Some, None, Result, Ok, Err}
use Rattle.std.proofs.Math.Bool.{true, false}
use mathlib.Core.List.{List, [], ◌∷◌, ◌++◌}
use Rattle.std.proofs.Math.Path.{refl, sym, ap, ap₂}
use Rattle.std.proofs.Common.{subst, ◌∙◌, length-append, arith}
use Rattle.std.proofs.Math.ListN.{length}
use Rattle.std.proofs.Math.Numerals.{add-one}
use Rattle.roles.specs.declared.RoleSet.{RoleSet}
use Rattle.model.specs.Policy.{Policy, State}
use Rattle.tables.specs.declared.Name.{Name}
use Rattle.tables.specs.Names.{rows}
use Rattle.tables.specs.NameLaws as names
use Rattle.ledgers.specs.Parts.{rows_in}
use Rattle.ledgers.specs.PartLaws.{rows_length}
use Rattle.ledgers.specs.Ledger.{user_names, people, assign_rules, revoke_rules, goal_sets}
use Rattle.ledgers.specs.LedgerLaws.{users_lent}
use Rattle.text.specs.Forms.{bytes}
use Rattle.text.specs.Pieces.{part, same_bytes, Sought}
use Rattle.text.specs.Begins.{begins}
use Rattle.walking.specs.declared.Fault.{Fault}
use Rattle.walking.specs.Faults.{evidence_number}
use Rattle.lines.specs.declared.Counts.{Counts}
use Rattle.reading.specs.Policy.{Said, policy_of}
use Rattle.reading.specs.Ledger.{ledger_says, Limited}
use Rattle.steps.specs.declared.Found.{Found}
use Rattle.steps.specs.declared.Step.{Step}
use Rattle.steps.specs.Tests.{first_bad}
use Rattle.steps.specs.Traces.{possible, ran, run_of}
use Rattle.steps.specs.Runs.{run_more, run_breaks}
use Rattle.steps.specs.StepExact.{broken_stays}
use Rattle.traces.specs.declared.TraceLine.{TraceLine}
use Rattle.traces.specs.TraceLines.{trace_line}
use Rattle.traces.specs.TraceText.{with_name}
use Rattle.traces.specs.TraceWalk.{After, after_header, line_last, line_bad, line_step}
use Rattle.running.specs.declared.TraceVerdict.{TraceVerdict}
use Rattle.running.specs.Range.{Ranged, Room, line_range}
use Rattle.running.specs.Trying.{changed, next_broken, next_people, TriedNext}
use Rattle.running.specs.Joining.{with_new, saying, with_person, saying_new, person-after, names_within, saying_limited}
use Rattle.running.proofs.TraceVerdictExact.{verdict_run, run_refused}
use Rattle.running.specs.Verdict.{ran_verdict, trace_refused, trace_verdict, so_far, end_verdict}

-- before the line of this number, over what the ledger said at first
pub record Reached (s : Said) (c : Counts) (text : List ℕ) (at number steps : ℕ) (stopped : Option ℕ) (words : List ℕ) : Type 0 where
  -- the steps so far, and the names that are known
  pub said : List Step
  pub counted : steps ≡ length said
  pub few : steps ≤ at
  pub known : List Name
  -- they run to a state, or the first that is not possible is known
  pub state : State
  pub run : run_of (policy_of s) s.holdings said ≡ so_far stopped state
  -- by counts within the limits the ledger says the same as at first, with these names and the people of that state
  pub stage : ℕ
  pub says : ledger_says words c ≡ saying s stage known state
  pub limited : Limited c
  -- the whole text gives what the lines from here on give
  pub after : After (length s.assigns) (length s.revokes) s.users text at number known said

pub reached_start : (words : List ℕ) (c : Counts) (text : List ℕ) → Limited c → length text ≤ 32768 → begins (bytes "trace\t1\n") text ≡ true → Reached (ledger_says words c) c text 8 2 0 None words
unfolding run_of so_far
reached_start words c text limited short is =
    let s = ledger_says words c in
    record {
      said = [];
      counted = refl;
      few = zero-le;
      known = s.users;
      state = s.holdings;
      run = refl;
      stage = s.stage;
      says = refl;
      limited = limited;
      after = after_header (length s.assigns) (length s.revokes) s.users text short is;
    }

-- a program's end of a run is the verdict
end_is : (steps : ℕ) (stopped : Option ℕ) (names : List Name) (goals : List RoleSet) (σ : State) → end_verdict stopped steps names (first_bad σ goals) ≡ ran_verdict steps names goals (so_far stopped σ)
unfolding end_verdict ran_verdict so_far
end_is steps None names goals σ = refl
end_is steps (Some number) names goals σ = refl

module _ {s : Said} {c : Counts} {text : List ℕ} {at number steps : ℕ} {stopped : Option ℕ} {words : List ℕ} (r : Reached s c text at number steps stopped words) where
  -- the names that the ledger lends are those that are known, and there is a person for each
  known_lent : rows c.users (part words 512 (length words)) ≡ r.known
  unfolding ledger_says
  known_lent = users_lent words c.users ∙ ap (λ (t : Said). t.users) r.says

  known_many : c.users ≡ length r.known
  unfolding ledger_says
  known_many = sym (rows_length user_names words c.users) ∙ ap (λ (t : Said). length t.users) r.says

  state_many : length r.state ≡ length r.known
  unfolding ledger_says
  state_many = sym (ap (λ (t : Said). length t.holdings) r.says) ∙ rows_length people words c.users ∙ known_many

  module _ {stop : ℕ} (sought : Sought text at 10 stop) (here : stop < length text) where
    -- the last line
    pub reached_last : {found : Option Found} {verdict : TraceVerdict} → same_bytes (part text at stop) (bytes "end") ≡ true → length text ≤ stop + 1
        → found ≡ first_bad (rows_in people words c.users) (rows_in goal_sets words c.goals) → verdict ≡ end_verdict stopped steps (rows c.users (part words 512 (length words))) found → Ok verdict ≡ trace_verdict s text
    unfolding ledger_says
    reached_last last all finds is =
        ap Ok
        (is
        ∙ ap₂ (end_verdict stopped steps) known_lent (finds ∙ (λ i. first_bad (r.says i).holdings (r.says i).goals))
        ∙ end_is steps stopped r.known s.goals r.state
        ∙ ap (λ (n : ℕ). ran_verdict n r.known s.goals (so_far stopped r.state)) r.counted)
        ∙ sym (verdict_run s text (line_last r.after sought here last all) r.run)

-- a line that is not `end`, read over the names that are known and the counts of the ledger
pub record Line (s : Said) (c : Counts) (text : List ℕ) (at number steps : ℕ) (stopped : Option ℕ) (words : List ℕ) (stop : ℕ) (answer : Result TraceLine Fault) : Type 0 where
  pub reached : Reached s c text at number steps stopped words
  pub sought : Sought text at 10 stop
  pub here : stop < length text
  pub is_not : same_bytes (part text at stop) (bytes "end") ≡ false
  pub given : answer ≡ trace_line c.assigns c.revokes (rows c.users (part words 512 (length words))) (part text at stop)

module _ {s : Said} {c : Counts} {text : List ℕ} {at number steps : ℕ} {stopped : Option ℕ} {words : List ℕ} {stop : ℕ} {answer : Result TraceLine Fault} (l : Line s c text at number steps stopped words stop answer) where
  abbrev r : Reached s c text at number steps stopped words
  r = l.reached

  -- it is read as over what the policy says
  given_said : answer ≡ trace_line (length s.assigns) (length s.revokes) r.known (part text at stop)
  unfolding ledger_says
  given_said =
      let assigns : c.assigns ≡ length s.assigns = sym (rows_length assign_rules words c.assigns) ∙ ap (λ (t : Said). length t.assigns) r.says in
      let revokes : c.revokes ≡ length s.revokes = sym (rows_length revoke_rules words c.revokes) ∙ ap (λ (t : Said). length t.revokes) r.says in
      l.given ∙ (λ i. trace_line (assigns i) (revokes i) (known_lent r i) (part text at stop))

  -- a bad line
  pub reached_bad : {fault : Fault} → answer ≡ Err fault → trace_refused (evidence_number fault) number ≡ trace_verdict s text
  reached_bad {fault} told = sym ((run_refused s text (evidence_number fault) number).1 (line_bad r.after l.sought l.here l.is_not given_said told))

  -- a step more
  module _ {read : TraceLine} (told : answer ≡ Ok read) where
    abbrev step : Step
    step = read.step

    abbrev name : Name
    name = read.name

    lent_range : Ranged c.assigns c.revokes (length (rows c.users (part words 512 (length words)))) step × Room (length (rows c.users (part words 512 (length words)))) step
    lent_range = line_range c.assigns c.revokes (rows c.users (part words 512 (length words))) (part text at stop) (sym l.given ∙ told)

    -- its places are those of names that are known and of rules, and there is room for its name
    pub step_range : Ranged c.assigns c.revokes c.users step
    step_range = subst (λ (n : ℕ). Ranged c.assigns c.revokes n step) (names.rows_length c.users (part words 512 (length words))) lent_range.0

    pub step_room : Room c.users step
    step_room = subst (λ (n : ℕ). Room n step) (names.rows_length c.users (part words 512 (length words))) lent_range.1

    -- the step is tried, unless one before it was none, and who joins is entered
    module _ {answered : Option ℕ} (tried left : List ℕ) (d : Counts) (next : TriedNext (ledger_says words c) stopped (steps + 1) step answered (ledger_says tried c))
        (enters : ledger_says left d ≡ with_new (ledger_says tried c) step name) where
      abbrev P : Policy
      P = policy_of s

      -- as over the policy and the state
      abbrev over : TriedNext (saying s r.stage r.known r.state) stopped (steps + 1) step answered (ledger_says tried c)
      over = subst (λ (t : Said). TriedNext t stopped (steps + 1) step answered (ledger_says tried c)) r.says next

      -- the people whom the step leaves
      abbrev people_left : State
      people_left = next_people stopped (possible P r.state step) (changed P r.state step) r.state

      abbrev entered : (stage : ℕ) × (with_new (saying s r.stage r.known people_left) step name ≡ saying s stage (with_name r.known step name) (with_person r.known people_left step))
      entered = saying_new s r.stage r.known people_left step name

      now_says : ledger_says left d ≡ saying s entered.0 (with_name r.known step name) (with_person r.known people_left step)
      unfolding policy_of
      now_says = enters ∙ ap (λ (t : Said). with_new t step name) over.leaves ∙ entered.1

      -- the run with the step
      now_runs : run_of P s.holdings (r.said ++ (step ∷ [])) ≡ so_far answered (with_person r.known people_left step)
      unfolding so_far next_broken next_people policy_of
      now_runs = go stopped refl (possible P r.state step) refl
        where
          go : (o : Option ℕ) → stopped ≡ o → (b : Bool) → possible P r.state step ≡ b → run_of P s.holdings (r.said ++ (step ∷ [])) ≡ so_far answered (with_person r.known people_left step)
          go None none true is =
              run_more P s.holdings r.said step (r.run ∙ ap (λ (o : Option ℕ). so_far o r.state) none) is
              ∙ ap ran (sym ((λ i. with_person r.known (next_people (none i) (is i) (changed P r.state step) r.state) step) ∙ person-after P r.known r.state step (state_many r) is))
              ∙ ap (λ (o : Option ℕ). so_far o (with_person r.known people_left step)) (sym (over.answered ∙ (λ i. next_broken (none i) (steps + 1) (is i))))
          go None none false is =
              run_breaks P s.holdings r.said step [] (r.run ∙ ap (λ (o : Option ℕ). so_far o r.state) none) is
              ∙ ap (λ (o : Option ℕ). so_far o (with_person r.known people_left step)) (sym (over.answered ∙ (λ i. next_broken (none i) (steps + 1) (is i)) ∙ ap Some (add-one steps ∙ ap suc r.counted)))
          go (Some before) some b is =
              broken_stays P s.holdings r.said (step ∷ []) before (r.run ∙ ap (λ (o : Option ℕ). so_far o r.state) some)
              ∙ ap (λ (o : Option ℕ). so_far o (with_person r.known people_left step)) (sym (over.answered ∙ ap (λ (o : Option ℕ). next_broken o (steps + 1) (possible P r.state step)) some))

      pub step_next : Reached s d text (stop + 1) (number + 1) (steps + 1) answered left
      step_next = record {
        said = r.said ++ (step ∷ []);
        counted = omega (arith, r.counted, length-append r.said (step ∷ []));
        few = omega (arith, r.few, l.sought.first);
        known = with_name r.known step name;
        state = with_person r.known people_left step;
        run = now_runs;
        stage = entered.0;
        says = now_says;
        limited = saying_limited s words left c d r.stage entered.0 r.known (with_name r.known step name) r.state (with_person r.known people_left step) r.limited r.says now_says
            (names_within r.known step name (omega (arith, known_many r, r.limited.users)) (subst (λ (n : ℕ). Room n step) (known_many r) step_room));
        after = line_step r.after l.sought l.here l.is_not given_said told;
      }
