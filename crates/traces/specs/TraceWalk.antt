-- A trace gone through from line to line: at each place after the header the whole text gives what the lines from there on give.
use Rattle.std.specs.Prelude.{ℕ, ◌+◌, ◌≤◌, ◌<◌, true, List, [], ◌∷◌, ◌++◌, Result, Ok, Err, ◌≡◌, refl, drop}
use Rattle.std.proofs.Math.Bool.{false}
use Rattle.std.proofs.lemmas.Bool.{false≢true}
use Rattle.std.proofs.Common.{sym, ◌∙◌, arith}
use Rattle.std.proofs.Math.Path.{ap}
use Rattle.std.proofs.Math.ListN.{length}
use Rattle.tables.specs.declared.Name.{Name}
use Rattle.text.specs.Forms.{bytes}
use Rattle.text.specs.Pieces.{split, onto, part, same_bytes, Sought}
use Rattle.text.specs.PieceLaws.{same_answer}
use Rattle.text.specs.Begins.{begins, begins-whole}
use Rattle.steps.specs.declared.Step.{Step}
use Rattle.walking.specs.declared.Fault.{Fault}
use Rattle.walking.specs.Faults.{evidence_number}
use Rattle.walking.specs.Texts.{ends, bad, read, refused, read_lines}
use Rattle.walking.specs.TextLaws.{text_fits, text_long, lines_next, onward_goes}
use Rattle.walking.specs.FirstLine.{not_begun}
use Rattle.walking.specs.Walk.{On, on_end, on_tail, on_bad, on_goes, on_last, on_more}
use Rattle.traces.specs.declared.TraceLine.{TraceLine}
use Rattle.traces.specs.TraceLines.{trace_line}
use Rattle.traces.specs.TraceText.{untraced, with_name, header_line, later_line, answered, judge_line, read_trace}

-- before the line of this number, after the header and these steps, with these names known
pub record After (assigns revokes : ℕ) (users : List Name) (text : List ℕ) (at number : ℕ) (names : List Name) (steps : List Step) : Type 0 where
  pub on : On (judge_line assigns revokes) 15 14 (untraced users) text at number (record { started = true; names = names; steps = steps })

module _ (assigns revokes : ℕ) (users : List Name) where
  pub trace_long : (text : List ℕ) → 32768 < length text → read_trace assigns revokes users text ≡ refused 14 0
  unfolding read_trace
  trace_long text long = text_long (judge_line assigns revokes) 15 14 (untraced users) text long

  -- a first line that is not the header is malformed
  other_first : (line : List ℕ) → (line ≡ bytes "trace\t1" → ⊥) → judge_line assigns revokes (untraced users) line ≡ bad 15
  unfolding judge_line untraced header_line
  other_first line differs = rw (sym (same_answer line (bytes "trace\t1") false (λ e. absurd (false≢true e)) (λ is. absurd (differs is))))

  -- The text begins with the header,
  pub after_header : (text : List ℕ) → length text ≤ 32768 → begins (bytes "trace\t1\n") text ≡ true → After assigns revokes users text 8 2 users []
  unfolding judge_line untraced header_line same_bytes split onto
  after_header text short is =
      let whole = begins-whole (bytes "trace\t1\n") text is in
      record {
        on = record {
          left =
              text_fits (judge_line assigns revokes) 15 14 (untraced users) text short
              ∙ lines_next (judge_line assigns revokes) 15 (untraced users) 1 (drop 8 text) (ap (split 10) whole)
              ∙ onward_goes (judge_line assigns revokes) 15 (untraced users) 1 (split 10 (drop 8 text)) (λ t. read_lines (judge_line assigns revokes) 15 t 2 (split 10 (drop 8 text))) refl;
          within = omega (arith, ap length whole);
          short = short;
          numbered = omega arith;
        };
      }

  -- or is refused at line 1.
  pub headless : (text : List ℕ) → length text ≤ 32768 → begins (bytes "trace\t1\n") text ≡ false → read_trace assigns revokes users text ≡ refused 15 1
  unfolding read_trace
  headless text short none = not_begun (judge_line assigns revokes) 15 14 (untraced users) (bytes "trace\t1") other_first text short none

module _ {assigns revokes : ℕ} {users : List Name} {text : List ℕ} {at number : ℕ} {names : List Name} {steps : List Step} (after : After assigns revokes users text at number names steps) where
  -- no line is left, or one without LF
  pub no_line_lem : length text ≤ at → read_trace assigns revokes users text ≡ refused 15 number
  unfolding read_trace
  no_line_lem past = on_end (judge_line assigns revokes) 15 14 (untraced users) after.on past

  module _ {stop : ℕ} (sought : Sought text at 10 stop) where
    pub line_open : stop ≡ length text → read_trace assigns revokes users text ≡ refused 15 number
    unfolding read_trace
    line_open last = on_tail (judge_line assigns revokes) 15 14 (untraced users) after.on sought last

    module _ (here : stop < length text) where
      -- a line that is `end`: the last one, or bytes follow it
      module _ (is : same_bytes (part text at stop) (bytes "end") ≡ true) where
        judged_end : judge_line assigns revokes (record { started = true; names = names; steps = steps }) (part text at stop) ≡ ends
        unfolding judge_line later_line
        judged_end = rw is

        pub line_last : length text ≤ stop + 1 → read_trace assigns revokes users text ≡ read (record { started = true; names = names; steps = steps })
        unfolding read_trace
        line_last all = on_last (judge_line assigns revokes) 15 14 (untraced users) after.on sought here judged_end all

        pub line_more : stop + 1 < length text → read_trace assigns revokes users text ≡ refused 15 (number + 1)
        unfolding read_trace
        line_more left = on_more (judge_line assigns revokes) 15 14 (untraced users) after.on sought here judged_end left

      -- any other line: its answer decides
      module _ (is_not : same_bytes (part text at stop) (bytes "end") ≡ false) {answer : Result TraceLine Fault} (given : answer ≡ trace_line assigns revokes names (part text at stop)) where
        judged_is : {told : Result TraceLine Fault} → answer ≡ told → judge_line assigns revokes (record { started = true; names = names; steps = steps }) (part text at stop) ≡ answered (record { started = true; names = names; steps = steps }) told
        unfolding judge_line later_line
        judged_is told = rw is_not (ap (answered (record { started = true; names = names; steps = steps })) (sym given ∙ told))

        pub line_bad : {fault : Fault} → answer ≡ Err fault → read_trace assigns revokes users text ≡ refused (evidence_number fault) number
        unfolding read_trace answered
        line_bad told = on_bad (judge_line assigns revokes) 15 14 (untraced users) after.on sought here (judged_is told)

        pub line_step : {line : TraceLine} → answer ≡ Ok line → After assigns revokes users text (stop + 1) (number + 1) (with_name names line.step line.name) (steps ++ (line.step ∷ []))
        unfolding answered
        line_step told = record { on = on_goes (judge_line assigns revokes) 15 14 (untraced users) after.on sought here (judged_is told) }
