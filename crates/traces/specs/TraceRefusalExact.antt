-- A trace is refused and read exactly so.
use Rattle.std.specs.Prelude.{ℕ, Bool, ◌||◌, ◌↔◌, ◌≡◌}
use Rattle.std.proofs.Math.Bool.{true, false, cond}
use mathlib.Core.List.{List}
use Rattle.std.proofs.Math.Path.{refl, sym, ap}
use Rattle.std.proofs.Common.{◌∙◌}
use Rattle.tables.specs.declared.Name.{Name}
use Rattle.text.specs.Forms.{bytes}
use Rattle.text.specs.Pieces.{split, onto, same_bytes}
use Rattle.text.specs.PieceLaws.{same_equal}
use Rattle.walking.specs.Texts.{goes, ends, bad, read, refused}
use Rattle.walking.specs.Turns.{in_turn}
use Rattle.walking.specs.TurnLaws.{turn_passes}
use Rattle.walking.specs.MeaningLaws.{refusal_exact, read_exact}
use Rattle.walking.specs.Evidence.{tests_within, EvidenceReadAs}
use Rattle.walking.specs.EvidenceLaws.{refusal_means, reading_means}
use Rattle.traces.specs.declared.TraceLine.{TraceLine}
use Rattle.traces.specs.TraceLines as trace
use Rattle.traces.specs.TraceText.{Traced, untraced, begun, stepped, read_trace}
use Rattle.traces.specs.TraceText as traces
use Rattle.traces.specs.TraceRefusals.{trace_formed, trace_named, trace_within, trace_last, TraceRefusal}

-- a line's fault has the number of the first of its tests that fails
answered_turn : (s : Traced) (formed known within : Bool) (line : TraceLine)
    → traces.answered s (trace.comes_to formed known within line) ≡ in_turn bad (tests_within formed known within) (goes (stepped s line.step line.name))
unfolding traces.answered trace.comes_to in_turn
answered_turn s true true true line = refl
answered_turn s true true false line = refl
answered_turn s true false within line = refl
answered_turn s false known within line = refl

module _ (assigns revokes : ℕ) where
  -- the step that a line says, and the name that it brings, after the lines above
  abbrev said : Traced → List ℕ → Traced
  said s line = stepped s (trace.step_said s.names (trace.line_of (split 9 line))) (trace.name_brought (trace.line_of (split 9 line)))

  header_tells : (s : Traced) (line : List ℕ) (b : Bool) → same_bytes line (bytes "trace\t1") ≡ b
      → cond b (goes (begun s)) (bad 15)
      ≡ in_turn bad (tests_within b (trace_named assigns revokes s line) (trace_within assigns revokes s line)) (cond (trace_last assigns revokes s line) ends (goes (begun s)))
  unfolding in_turn same_bytes split onto trace.line_of trace.two_fields trace.step_known trace.step_within
  header_tells s line true is =
      let same = same_equal line (bytes "trace\t1") is in
      sym (turn_passes bad (tests_within true (trace_named assigns revokes s line) (trace_within assigns revokes s line)) _ (refl, (ap (trace_named assigns revokes s) same, (ap (trace_within assigns revokes s) same, tt)))
      ∙ ap (λ (l : List ℕ). cond (trace_last assigns revokes s l) ends (goes (begun s))) same)
  header_tells s line false is = refl

  later_tells : (s : Traced) (line : List ℕ) (b : Bool) → same_bytes line (bytes "end") ≡ b
      → cond b ends (traces.answered s (trace.trace_line assigns revokes s.names line))
      ≡ in_turn bad (tests_within (b || trace.step_formed (trace.line_of (split 9 line))) (trace_named assigns revokes s line) (trace_within assigns revokes s line)) (cond b ends (goes (said s line)))
  unfolding split onto trace.line_of trace.step_known trace.step_within trace.trace_line trace.judged traces.answered
  later_tells s line true is =
      let same = same_equal line (bytes "end") is in
      sym (turn_passes bad (tests_within true (trace_named assigns revokes s line) (trace_within assigns revokes s line)) ends (refl, (ap (trace_named assigns revokes s) same, (ap (trace_within assigns revokes s) same, tt))))
  later_tells s line false is = answered_turn s (trace.step_formed (trace.line_of (split 9 line))) (trace_named assigns revokes s line) (trace_within assigns revokes s line) _

  trace_tells : (s : Traced) (line : List ℕ)
      → traces.judge_line assigns revokes s line
      ≡ in_turn bad (tests_within (trace_formed assigns revokes s line) (trace_named assigns revokes s line) (trace_within assigns revokes s line)) (cond (trace_last assigns revokes s line) ends (goes (cond s.started (said s line) (begun s))))
  unfolding traces.judge_line traces.header_line traces.later_line
  trace_tells s line = go s.started
    where
      go : (b : Bool)
          → cond b (traces.later_line assigns revokes s line) (traces.header_line s line)
          ≡ in_turn bad (tests_within (cond b (same_bytes line (bytes "end") || trace.step_formed (trace.line_of (split 9 line))) (same_bytes line (bytes "trace\t1"))) (trace_named assigns revokes s line) (trace_within assigns revokes s line)) (cond (trace_last assigns revokes s line) ends (goes (cond b (said s line) (begun s))))
      go true = later_tells s line (same_bytes line (bytes "end")) refl
      go false = header_tells s line (same_bytes line (bytes "trace\t1")) refl

  module _ (users : List Name) where
    -- A trace is refused with a number at a line exactly when it has that refusal,
    pub trace_refusal_exact : (text : List ℕ) (k n : ℕ) → read_trace assigns revokes users text ≡ refused k n ↔ TraceRefusal assigns revokes users text k n
    unfolding read_trace
    trace_refusal_exact text k n =
        let exact = refusal_exact (traces.judge_line assigns revokes) 15 14 (untraced users) text k n in
        let means = refusal_means (traces.judge_line assigns revokes) (trace_formed assigns revokes) (trace_named assigns revokes) (trace_within assigns revokes) (trace_last assigns revokes) (untraced users) text _ trace_tells {k = k} {n = n} in
        (λ is. means.0 (exact.0 is), λ r. exact.1 (means.1 r))

    -- and read as it says exactly when it does.
    pub trace_read_exact : (text : List ℕ) (t : Traced) → read_trace assigns revokes users text ≡ read t ↔ EvidenceReadAs (traces.judge_line assigns revokes) (trace_formed assigns revokes) (trace_named assigns revokes) (trace_within assigns revokes) (trace_last assigns revokes) (untraced users) text t
    unfolding read_trace
    trace_read_exact text t =
        let exact = read_exact (traces.judge_line assigns revokes) 15 14 (untraced users) text t in
        let means = reading_means (traces.judge_line assigns revokes) (trace_formed assigns revokes) (trace_named assigns revokes) (trace_within assigns revokes) (trace_last assigns revokes) (untraced users) text _ trace_tells {said = t} in
        (λ is. means.0 (exact.0 is), λ r. exact.1 (means.1 r))
