-- A whole trace text: the header, its steps in order, and `end`.
use Rattle.std.specs.Prelude.{ℕ, Bool, true, false, cond, List, [], ◌∷◌, ◌++◌, Result, Ok, Err, ltb, length}
use Rattle.tables.specs.declared.Name.{Name}
use Rattle.text.specs.Forms.{bytes}
use Rattle.text.specs.Pieces.{same_bytes}
use Rattle.steps.specs.declared.Step.{Step}
use Rattle.walking.specs.declared.Fault.{Fault}
use Rattle.walking.specs.Faults.{evidence_number}
use Rattle.walking.specs.Texts.{Judged, goes, ends, bad, Reading, read_text}
use Rattle.traces.specs.declared.TraceLine.{TraceLine}
use Rattle.traces.specs.TraceLines.{trace_line}

-- Whether the header stands above, the names that are known, and the steps so far.
pub record Traced : Type 0 where
  pub started : Bool
  pub names : List Name
  pub steps : List Step

-- before the first line: the policy's users are known
unfoldable pub untraced : List Name → Traced
untraced users = record { started = false; names = users; steps = [] }

-- after the header
abbrev pub begun : Traced → Traced
begun s = record { started = true; names = s.names; steps = s.steps }

-- The names that are known after a step: a join makes its name known, in the next place, where it was not.
unfoldable pub with_name : List Name → Step → Name → List Name
with_name names (Step.Assign actor rule user) name = names
with_name names (Step.Revoke actor rule user) name = names
with_name names (Step.Join user clearance) name = cond (ltb user (length names)) names (names ++ (name ∷ []))
with_name names (Step.Leave user) name = names

-- after a step
abbrev pub stepped : Traced → Step → Name → Traced
stepped s step name = record { started = true; names = with_name s.names step name; steps = s.steps ++ (step ∷ []) }

-- The first line is the header, `trace` `1`.
unfoldable pub header_line : Traced → List ℕ → Judged Traced
header_line s line = cond (same_bytes line (bytes "trace\t1")) (goes (begun s)) (bad 15)

-- A step goes after those above; a line with a fault is refused with its number.
unfoldable pub answered : Traced → Result TraceLine Fault → Judged Traced
answered s (Ok line) = goes (stepped s line.step line.name)
answered s (Err fault) = bad (evidence_number fault)

-- After the header a line is `end` or a step line.
unfoldable pub later_line : (assigns revokes : ℕ) → Traced → List ℕ → Judged Traced
later_line assigns revokes s line = cond (same_bytes line (bytes "end")) ends (answered s (trace_line assigns revokes s.names line))

-- The header first, then steps, then `end`.
unfoldable pub judge_line : (assigns revokes : ℕ) → Traced → List ℕ → Judged Traced
judge_line assigns revokes s line = cond s.started (later_line assigns revokes s line) (header_line s line)

-- The whole text over the policy's users and rule counts: 14 where it is too long, 15 where `end` is missing or not the last line.
unfoldable pub read_trace : (assigns revokes : ℕ) → List Name → List ℕ → Reading Traced
read_trace assigns revokes users text = read_text (judge_line assigns revokes) 15 14 (untraced users) text
