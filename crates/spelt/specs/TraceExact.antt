-- A trace text is read exactly when it is spelt so.
use Rattle.std.specs.Prelude.{ℕ, ◌≤◌, true, ◌↔◌, ◌≡◌, length}
use Rattle.std.proofs.Math.Bool.{◌&&◌}
use mathlib.Core.List.{List, [], ◌∷◌, ◌++◌, map, append_assoc, append-nil}
use Rattle.std.proofs.Math.Path.{refl, sym, ap, ap₂, subst⁻¹}
use Rattle.std.proofs.Common.{subst, ◌∙◌}
use Rattle.tables.specs.declared.Name.{Name}
use Rattle.tables.specs.Names.{packed}
use Rattle.text.specs.Forms.{bytes, every}
use Rattle.walking.specs.Texts.{goes, ends, read}
use Rattle.reading.specs.Policy.{Said, read_policy}
use Rattle.steps.specs.declared.Step.{Step}
use Rattle.traces.specs.TraceText.{Traced, untraced, begun, judge_line, read_trace}
use Rattle.rereading.specs.Cuts.{free}
use Rattle.spelt.specs.Names.{Names}
use Rattle.spelt.specs.Policies.{users-packed}
use Rattle.spelt.specs.Lines.{ended}
use Rattle.spelt.specs.LinesExact.{Lead, last, onward, InLines, lead_opened, lines_exact}
use Rattle.spelt.specs.Trace.{StepsSpelt, none, TraceSpelt}
use Rattle.spelt.specs.Trace as trace
use Rattle.spelt.specs.TraceLines.{tracing, Adds, goes_adds, spelt_clear, spelt_names, spelt_goes, end_exact, header_goes, header_ends}

module _ (assigns revokes : ℕ) where
  -- ---- what is read is spelt so

  -- the lines of the steps that are left, and `end`
  record Left (names : List (List ℕ)) (done : List Step) (lines : List (List ℕ)) (t : Traced) : Type 0 where
    steps : List (List ℕ)
    taken : List Step
    known : List (List ℕ)
    are : lines ≡ steps ++ (bytes "end" ∷ [])
    says : StepsSpelt assigns revokes names steps taken known
    leads : t ≡ tracing known (done ++ taken)

  steps_left : {names : List (List ℕ)} (all : Names names) (done : List Step) {s t : Traced} {lines : List (List ℕ)} → s ≡ tracing names done → Lead (judge_line assigns revokes) s lines t → Left names done lines t
  steps_left {names} all done from (last {s} {line} is) = record {
    steps = [];
    taken = [];
    known = names;
    are = ap (λ (l : List ℕ). l ∷ []) ((end_exact assigns revokes all done line).0 (subst (λ (x : Traced). judge_line assigns revokes x line ≡ ends) from is));
    says = none;
    leads = from ∙ λ i. tracing names (sym (append-nil done) i);
  }
  steps_left {names} all done from (onward {s} {t} {u} {line} {lines} good below) =
      go (goes_adds assigns revokes all (subst (λ (x : Traced). judge_line assigns revokes x line ≡ goes t) from good)) (λ more next step leads. steps_left next (done ++ (step ∷ [])) leads below)
    where
      go : Adds assigns revokes names done line t → ((more : List (List ℕ)) → Names more → (step : Step) → t ≡ tracing more (done ++ (step ∷ [])) → Left more (done ++ (step ∷ [])) lines u) → Left names done (line ∷ lines) u
      go a rest =
          let left = rest a.more (spelt_names assigns revokes all a.spelt) a.step a.leads in
          record {
            steps = line ∷ left.steps;
            taken = a.step ∷ left.taken;
            known = left.known;
            are = ap (λ (k : List (List ℕ)). line ∷ k) left.are;
            says = trace.another a.spelt left.says;
            leads = left.leads ∙ λ i. tracing left.known (append_assoc done (a.step ∷ []) left.taken i);
          }

  module _ {users : List (List ℕ)} (all : Names users) where
    lead_spelt : {text : List ℕ} {t : Traced} → length text ≤ 32768 → InLines (judge_line assigns revokes) (untraced (map packed users)) text t → TraceSpelt assigns revokes users text t
    unfolding untraced
    lead_spelt {t = t} short whole =
        let table = map packed users in
        let opened = lead_opened (judge_line assigns revokes) (bytes "trace\t1") (begun (untraced table)) (header_ends assigns revokes table) (λ line t good. (header_goes assigns revokes table line t).0 good) whole.lead in
        let left = steps_left all [] refl opened.lead in
        record {
          short = short;
          steps = left.steps;
          lines = whole.are ∙ ap ended opened.are ∙ ap (λ (l : List (List ℕ)). ended (bytes "trace\t1" ∷ l)) left.are;
          known = left.known;
          says = subst⁻¹ (λ (x : Traced). StepsSpelt assigns revokes users left.steps x.steps left.known) left.leads left.says;
          names = ap (λ (x : Traced). x.names) left.leads;
          begun = ap (λ (x : Traced). x.started) left.leads;
        }

  -- ---- what is spelt so is read

  -- the lines of steps lead on, none with an LF within
  steps_lead : {names known lines : List (List ℕ)} {steps : List Step} → Names names → (done : List Step) → StepsSpelt assigns revokes names lines steps known
      → Lead (judge_line assigns revokes) (tracing names done) (lines ++ (bytes "end" ∷ [])) (tracing known (done ++ steps))
  steps_lead {names} all done none =
      subst (λ (l : List Step). Lead (judge_line assigns revokes) (tracing names done) (bytes "end" ∷ []) (tracing names l)) (sym (append-nil done)) (last ((end_exact assigns revokes all done (bytes "end")).1 refl))
  steps_lead {names} {known} all done (trace.another {line} {step} {steps} {more = more} {lines = lines} spelt below) =
      onward (spelt_goes assigns revokes all done spelt)
      (subst (λ (l : List Step). Lead (judge_line assigns revokes) (tracing more (done ++ (step ∷ []))) (lines ++ (bytes "end" ∷ [])) (tracing known l)) (append_assoc done (step ∷ []) steps)
      (steps_lead (spelt_names assigns revokes all spelt) (done ++ (step ∷ [])) below))

  steps_clear : {names known lines : List (List ℕ)} {steps : List Step} → Names names → StepsSpelt assigns revokes names lines steps known → every (free 10) (lines ++ (bytes "end" ∷ [])) ≡ true
  unfolding every free
  steps_clear all none = refl
  steps_clear all (trace.another spelt below) = ap₂ ◌&&◌ (spelt_clear assigns revokes all spelt) (steps_clear (spelt_names assigns revokes all spelt) below)

  module _ {users : List (List ℕ)} (all : Names users) where
    spelt_lead : {text : List ℕ} {t : Traced} → TraceSpelt assigns revokes users text t → InLines (judge_line assigns revokes) (untraced (map packed users)) text t
    unfolding untraced every free
    spelt_lead {text} {t} spelt = record {
      lines = bytes "trace\t1" ∷ (spelt.steps ++ (bytes "end" ∷ []));
      are = spelt.lines;
      clear = steps_clear all spelt.says;
      lead = onward ((header_goes assigns revokes (map packed users) (bytes "trace\t1") (begun (untraced (map packed users)))).1 (refl, refl))
          (subst (Lead (judge_line assigns revokes) (tracing users []) (spelt.steps ++ (bytes "end" ∷ []))) (λ i. record { started = sym spelt.begun i; names = sym spelt.names i; steps = t.steps }) (steps_lead all [] spelt.says));
    }

    -- A trace text is read over names exactly when it is spelt so.
    pub trace_spelt : (text : List ℕ) (t : Traced) → read_trace assigns revokes (map packed users) text ≡ read t ↔ TraceSpelt assigns revokes users text t
    unfolding read_trace
    trace_spelt text t =
        let exact = lines_exact (judge_line assigns revokes) 15 14 (untraced (map packed users)) text t in
        (λ is. lead_spelt all (exact.0 is).0 (exact.0 is).1, λ spelt. exact.1 (spelt.short, spelt_lead spelt))

-- So over the user names of a policy that is read.
pub policy_trace_spelt : (policy : List ℕ) {s : Said} (reads : read_policy policy ≡ read s) (assigns revokes : ℕ) (text : List ℕ) (t : Traced)
    → read_trace assigns revokes s.users text ≡ read t ↔ TraceSpelt assigns revokes (users-packed policy reads).names text t
policy_trace_spelt policy {s} reads assigns revokes text t =
    let table = users-packed policy reads in
    subst⁻¹ (λ (names : List Name). read_trace assigns revokes names text ≡ read t ↔ TraceSpelt assigns revokes table.names text t) table.packing (trace_spelt assigns revokes table.are text t)
