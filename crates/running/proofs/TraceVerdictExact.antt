-- The verdict on a trace is exact: each answer exactly when its rule says so.
use Rattle.std.proofs.Common.{true≢false, ◌∙◌, arith}
use Prim.Native.Nat.{ℕ, suc, ◌-◌, ◌<◌}
use mathlib.Core.List.{List, [], Memᴰ as Listed}
use Rattle.std.specs.Prelude.{◌↔◌, ◌≡◌, Option, Some, None, Result, Ok}
use Rattle.std.proofs.Math.Path.{refl, sym, ap, subst}
use Rattle.std.proofs.Math.ListN.{length}
use Rattle.roles.specs.declared.RoleSet.{RoleSet}
use Rattle.roles.specs.Members.{Sized}
use Rattle.model.specs.Policy.{State}
use Rattle.model.specs.Sized.{SizedPolicy}
use Rattle.model.proofs.Safety.{Attack}
use Rattle.tables.specs.declared.Name.{Name}
use Rattle.tables.specs.Names.{packed, name_at}
use Rattle.walking.specs.declared.Refusal.{Refusal}
use Rattle.walking.specs.Texts.{Reading, read, refused}
use Rattle.reading.specs.Policy.{Said, policy_of}
use Rattle.steps.specs.declared.Found.{Found}
use Rattle.steps.specs.Tests.{first_bad}
use Rattle.steps.specs.Traces.{Ran, broken, ran, run_of}
use Rattle.steps.specs.Places.{At}
use Rattle.steps.proofs.PlaceLaws.{at_stands, stands_at}
use Rattle.steps.specs.Bad.{FirstBad}
use Rattle.steps.proofs.BadLaws.{bad_exact, bad_first, first_only, first_is_bad}
use Rattle.following.proofs.FollowsExact.{follows_exact, breaks_exact, follows_run}
use Rattle.traces.specs.TraceText.{Traced, read_trace}
use Rattle.running.specs.declared.TraceVerdict.{TraceVerdict}
use Rattle.running.specs.Verdict.{last_verdict, ran_verdict, trace_refused, read_verdict, trace_verdict}
use Rattle.running.specs.Says.{Reads, Attacked, Broken, Short}
use Rattle.running.specs.Named.{named-people}

-- ---- the verdict by what the text and its steps give

module _ (s : Said) (text : List ℕ) where
  -- what the steps of a trace run to
  abbrev runs_to : Traced → Ran → Type 0
  runs_to t x = run_of (policy_of s) s.holdings t.steps ≡ x

  data Outcome : Result TraceVerdict Refusal → Type 0 where
    no_trace : {number line : ℕ} → read_trace (length s.assigns) (length s.revokes) s.users text ≡ refused number line → Outcome (trace_refused number line)
    stops : {t : Traced} {number : ℕ} → Reads s text t → runs_to t (broken number) → Outcome (Ok (TraceVerdict.Broken number))
    no_one : {t : Traced} {last : State} → Reads s text t → runs_to t (ran last) → first_bad last s.goals ≡ None → Outcome (Ok (TraceVerdict.Short (length t.steps)))
    someone : {t : Traced} {last : State} {found : Found} → Reads s text t → runs_to t (ran last) → first_bad last s.goals ≡ Some found
        → Outcome (Ok (TraceVerdict.Attacked (length t.steps) (found.user - 1) (name_at t.names (found.user - 1)) found.goal))

  verdict_read : {r : Reading Traced} → read_trace (length s.assigns) (length s.revokes) s.users text ≡ r → trace_verdict s text ≡ read_verdict s r
  unfolding trace_verdict
  verdict_read reads = ap (read_verdict s) reads

  -- of a text that is read, what its steps run to
  pub verdict_run : {t : Traced} {x : Ran} → Reads s text t → runs_to t x → trace_verdict s text ≡ Ok (ran_verdict (length t.steps) t.names s.goals x)
  unfolding read_verdict
  verdict_run {t} reads runs = verdict_read reads ∙ ap (λ (x : Ran). Ok (ran_verdict (length t.steps) t.names s.goals x)) runs

  verdict_short : {t : Traced} {last : State} → Reads s text t → runs_to t (ran last) → first_bad last s.goals ≡ None → trace_verdict s text ≡ Ok (TraceVerdict.Short (length t.steps))
  unfolding ran_verdict last_verdict
  verdict_short {t} reads runs none = verdict_run reads runs ∙ ap (λ (o : Option Found). Ok (last_verdict (length t.steps) t.names o)) none

  verdict_attacked : {t : Traced} {last : State} {found : Found} → Reads s text t → runs_to t (ran last) → first_bad last s.goals ≡ Some found
      → trace_verdict s text ≡ Ok (TraceVerdict.Attacked (length t.steps) (found.user - 1) (name_at t.names (found.user - 1)) found.goal)
  unfolding ran_verdict last_verdict
  verdict_attacked {t} reads runs one = verdict_run reads runs ∙ ap (λ (o : Option Found). Ok (last_verdict (length t.steps) t.names o)) one

  outcome : Outcome (trace_verdict s text)
  unfolding read_verdict ran_verdict
  outcome = go (read_trace (length s.assigns) (length s.revokes) s.users text) refl
    where
      ended : {t : Traced} {last : State} → Reads s text t → runs_to t (ran last) → (found : Option Found) → first_bad last s.goals ≡ found → Outcome (trace_verdict s text)
      ended reads runs None none = subst Outcome (sym (verdict_short reads runs none)) (no_one reads runs none)
      ended reads runs (Some found) one = subst Outcome (sym (verdict_attacked reads runs one)) (someone reads runs one)

      tried : {t : Traced} → Reads s text t → (x : Ran) → runs_to t x → Outcome (trace_verdict s text)
      tried reads (broken number) runs = subst Outcome (sym (verdict_run reads runs)) (stops reads runs)
      tried reads (ran last) runs = ended reads runs (first_bad last s.goals) refl

      go : (r : Reading Traced) → read_trace (length s.assigns) (length s.revokes) s.users text ≡ r → Outcome (trace_verdict s text)
      go (refused number line) reads = subst Outcome (sym (verdict_read reads)) (no_trace reads)
      go (read t) reads = tried reads (run_of (policy_of s) s.holdings t.steps) refl

-- ---- a refusal

refused_told : {s : Said} {text : List ℕ} {v : Result TraceVerdict Refusal} {k n : ℕ} → Outcome s text v → v ≡ trace_refused k n → read_trace (length s.assigns) (length s.revokes) s.users text ≡ refused k n
refused_told {k = k} {n = n} (no_trace {number = number} {line = line} reads) e =
    let one : ◌≡◌ {A = Refusal} (record { number = number; line = line }) (record { number = k; line = n }) = cc in
    reads ∙ ap (λ (r : Refusal). refused r.number r.line) one
refused_told (stops reads runs) e = absurd (true≢false (cc))
refused_told (no_one reads runs none) e = absurd (true≢false (cc))
refused_told (someone reads runs one) e = absurd (true≢false (cc))

-- REFUSED with a number and a line exactly when reading the text is.
pub run_refused : (s : Said) (text : List ℕ) (k n : ℕ) → trace_verdict s text ≡ trace_refused k n ↔ (read_trace (length s.assigns) (length s.revokes) s.users text ≡ refused k n)
unfolding read_verdict
run_refused s text k n = (refused_told (outcome s text), λ reads. verdict_read s text reads)

-- ---- the other verdicts, where the sets of the policy are words of 64 bits

module _ (s : Said) (sized : SizedPolicy (policy_of s)) where
  goals_sized : (goal : RoleSet) → Listed goal s.goals → Sized goal
  unfolding policy_of
  goals_sized goal listed = sized.goals listed

  -- and where the holdings have a person for each user
  module _ (people : length s.holdings ≡ length s.users) where
    attacked_told : {text : List ℕ} {v : Result TraceVerdict Refusal} {n u : ℕ} {m : Name} {g : ℕ} → Outcome s text v → v ≡ Ok (TraceVerdict.Attacked n u m g) → Attacked s text n u m g
    unfolding name_at
    attacked_told (no_trace reads) e = absurd (true≢false (cc))
    attacked_told (stops reads runs) e = absurd (true≢false (cc))
    attacked_told (no_one reads runs none) e = absurd (true≢false (cc))
    attacked_told {text} {u = u} {m = m} {g = g} (someone {t = t} {last = last} {found = found} reads runs one) e =
        let place : found.user - 1 ≡ u = cc in
        let goal_is : found.goal ≡ g = cc in
        let name_is : name_at t.names (found.user - 1) ≡ m = cc in
        let follows = (follows_exact sized s.holdings last t.steps).0 runs in
        let told = bad_first goals_sized last one in
        let user_is : found.user ≡ suc u = omega (arith, told.user_number, place) in
        let first = subst (FirstBad s.goals last) (λ i. record { user = user_is i; goal = goal_is i }) told in
        let inside : u < length t.names = omega (arith, first.present.listed, first.user_number, named-people s text reads people follows) in
        record {
          trace = t;
          reads = reads;
          counted = cc;
          last = last;
          follows = follows;
          first = first;
          named = subst (λ (name : Name). At name t.names u) (ap (name_at t.names) (sym place) ∙ name_is) (stands_at (packed []) t.names u inside);
        }

    -- ATTACKED exactly when the text is read as that many steps, they follow, and these are the first such user, that user's name and
    -- lowest goal.
    pub attacked_exact : (text : List ℕ) (n u : ℕ) (m : Name) (g : ℕ) → trace_verdict s text ≡ Ok (TraceVerdict.Attacked n u m g) ↔ Attacked s text n u m g
    unfolding name_at
    attacked_exact text n u m g = (attacked_told (outcome s text), λ a. given a (first_only goals_sized a.last a.first))
      where
        given : (a : Attacked s text n u m g) → first_bad a.last s.goals ≡ Some (record { user = suc u; goal = g }) → trace_verdict s text ≡ Ok (TraceVerdict.Attacked n u m g)
        given a found =
            let place : suc u - 1 ≡ u = omega arith in
            verdict_attacked s text a.reads ((follows_exact sized s.holdings a.last a.trace.steps).1 a.follows) found
            ∙ (λ i. Ok (TraceVerdict.Attacked (sym a.counted i) (place i) ((ap (name_at a.trace.names) place ∙ at_stands (packed []) a.named) i) g))

  broken_told : {text : List ℕ} {v : Result TraceVerdict Refusal} {n : ℕ} → Outcome s text v → v ≡ Ok (TraceVerdict.Broken n) → Broken s text n
  broken_told (no_trace reads) e = absurd (true≢false (cc))
  broken_told {n = n} (stops {t = t} {number = number} reads runs) e =
      let same : number ≡ n = cc in
      record { trace = t; reads = reads; breaks = (breaks_exact sized s.holdings t.steps n).0 (runs ∙ ap broken same) }
  broken_told (no_one reads runs none) e = absurd (true≢false (cc))
  broken_told (someone reads runs one) e = absurd (true≢false (cc))

  -- BROKEN with a number exactly when the text is read, the steps before that number follow, and the step with that number is none there.
  pub broken_first : (text : List ℕ) (n : ℕ) → trace_verdict s text ≡ Ok (TraceVerdict.Broken n) ↔ Broken s text n
  unfolding ran_verdict
  broken_first text n = (broken_told (outcome s text), λ b. verdict_run s text b.reads ((breaks_exact sized s.holdings b.trace.steps n).1 b.breaks))

  short_told : {text : List ℕ} {v : Result TraceVerdict Refusal} {n : ℕ} → Outcome s text v → v ≡ Ok (TraceVerdict.Short n) → Short s text n
  short_told (no_trace reads) e = absurd (true≢false (cc))
  short_told (stops reads runs) e = absurd (true≢false (cc))
  short_told (no_one {t = t} {last = last} reads runs none) e =
      record { trace = t; reads = reads; counted = cc; last = last; follows = (follows_exact sized s.holdings last t.steps).0 runs; safe = (bad_exact goals_sized last).0 none }
  short_told (someone reads runs one) e = absurd (true≢false (cc))

  -- SHORT exactly when the text is read as that many steps, and they follow to a state that is not bad.
  pub short_exact : (text : List ℕ) (n : ℕ) → trace_verdict s text ≡ Ok (TraceVerdict.Short n) ↔ Short s text n
  short_exact text n = (
    short_told (outcome s text),
    λ short.
        verdict_short s text short.reads ((follows_exact sized s.holdings short.last short.trace.steps).1 short.follows) ((bad_exact goals_sized short.last).1 short.safe)
        ∙ ap (λ (steps : ℕ). Ok (TraceVerdict.Short steps)) (sym short.counted),
  )

-- ATTACKED shows an attack on the policy: a run from the holdings that ends in a bad state.
pub attacked_attack : {s : Said} {text : List ℕ} {n u : ℕ} {m : Name} {g : ℕ} → Attacked s text n u m g → Attack (policy_of s) s.holdings
unfolding policy_of
attacked_attack a = record { last = a.last; run = follows_run a.follows; bad = first_is_bad a.first }
