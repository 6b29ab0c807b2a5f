-- When a trace is refused, in the words of document 01 and of document 02, CR 2.
use Rattle.std.specs.Prelude.{ℕ, Bool, cond, ◌||◌, List}
use Rattle.tables.specs.declared.Name.{Name}
use Rattle.text.specs.Forms.{bytes}
use Rattle.text.specs.Pieces.{split, same_bytes}
use Rattle.walking.specs.Evidence.{EvidenceRefusal}
use Rattle.traces.specs.TraceLines as trace
use Rattle.traces.specs.TraceText.{Traced, untraced}
use Rattle.traces.specs.TraceText as traces

module _ (assigns revokes : ℕ) where
  -- The tests of a trace line, after what the lines above say. The header first, then steps, then `end`;
  abbrev pub trace_formed : Traced → List ℕ → Bool
  trace_formed s line = cond s.started (same_bytes line (bytes "end") || trace.step_formed (trace.line_of (split 9 line))) (same_bytes line (bytes "trace\t1"))

  -- a step names users that are known and a rule of the policy;
  abbrev pub trace_named : Traced → List ℕ → Bool
  trace_named s line = trace.step_known assigns revokes s.names (trace.line_of (split 9 line))

  -- a join is not of the 65th name;
  abbrev pub trace_within : Traced → List ℕ → Bool
  trace_within s line = trace.step_within s.names (trace.line_of (split 9 line))

  -- `end` is the last line.
  abbrev pub trace_last : Traced → List ℕ → Bool
  trace_last s line = same_bytes line (bytes "end")

  abbrev pub TraceRefusal : List Name → (text : List ℕ) (number line : ℕ) → Type 0
  TraceRefusal users text = EvidenceRefusal (traces.judge_line assigns revokes) trace_formed trace_named trace_within trace_last (untraced users) text
