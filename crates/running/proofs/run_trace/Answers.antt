-- `run_trace` goes from line to line after the header: the steps so far run to the people of the ledger, and the rest of the text decides.
use Rattle.std.proofs.Common.{ℕ, ◌≤◌, ◌<◌, length, refl, sym, ap, ◌∙◌, arith}
use Rattle.std.proofs.Math.Path.{subst⁻¹}
use Rattle.std.specs.Prelude.{List, Option, Result, Err, false, ◌≡◌}
use Rattle.ledgers.specs.Ledger.{ledger_words}
use Rattle.traces.specs.TraceWalk.{trace_long, headless, no_line_lem, line_open, line_more}
use Rattle.tables.specs.Names.{rows}
use Rattle.walking.specs.declared.Fault.{Fault}
use Rattle.text.specs.Forms.{bytes}
use Rattle.text.specs.Pieces.{part, same_bytes, Sought}
use Rattle.lines.specs.declared.Counts.{Counts}
use Rattle.reading.specs.Policy.{Said}
use Rattle.traces.specs.declared.TraceLine.{TraceLine}
use Rattle.traces.specs.TraceLines.{trace_line}
use Rattle.running.proofs.Reached.{Reached, Line, reached_start, reached_last, reached_bad, step_range, step_room, step_next}
use Rattle.running.proofs.TraceVerdictExact.{run_refused}
use Rattle.running.proofs.run_trace.Goals as goal

-- a line that is not `end` is read
line : {s : Said} {c : Counts} {text : List ℕ} {at number steps : ℕ} {stopped : Option ℕ} {words : List ℕ} {stop : ℕ} {answer : Result TraceLine Fault}
    → Reached s c text at number steps stopped words → Sought text at 10 stop → stop < length text → same_bytes (part text at stop) (bytes "end") ≡ false
    → answer ≡ trace_line c.assigns c.revokes (rows c.users (part words 512 (length words))) (part text at stop) → Line s c text at number steps stopped words stop answer
line r sought here is_not given = record { reached = r; sought = sought; here = here; is_not = is_not; given = given }

pub returns-then-end-gt32768 : goal.returns-then-end-gt32768
returns-then-end-gt32768 c = sym ((run_refused _ _ _ _).1 (trace_long _ _ _ _ c.if-end-gt32768.true))

pub returns-then-not-begins_with : goal.returns-then-not-begins_with
returns-then-not-begins_with c = ap Err c.in_evidence.ensures ∙ sym ((run_refused _ _ _ _).1 (headless _ _ _ _ c.if-end-gt32768.false (sym c.begins_with.ensures ∙ c.if-not-begins_with.true)))

pub loop-at-init : goal.loop-at-init
loop-at-init c = (refl, reached_start _ _ _ c.requires.1 c.if-end-gt32768.false (sym c.begins_with.ensures ∙ c.if-not-begins_with.false))

pub seek-stop-requires : goal.seek-stop-requires
seek-stop-requires c = c.loop-at.invariant.1.after.on.within

pub shape_of-ledger-then-stop-end : goal.shape_of-ledger-then-stop-end
shape_of-ledger-then-stop-end c = c.loop-at.invariant.0

pub returns-then-stop-end : goal.returns-then-stop-end
returns-then-stop-end c = ap Err c.in_evidence-then-stop-end.ensures ∙ sym ((run_refused _ _ _ _).1 (line_open c.loop-at.invariant.1.after c.seek-stop.ensures c.if-stop-end.true))

pub slice_bounds-line-count : goal.slice_bounds-line-count
slice_bounds-line-count c = omega (arith, c.seek-stop.ensures)

pub overflow_add-at : goal.overflow_add-at
overflow_add-at c = omega (arith, c.seek-stop.ensures, c.loop-at.invariant.1.after.on.short)

pub overflow_add-number : goal.overflow_add-number
overflow_add-number c = omega (arith, c.loop-at.invariant.1.after.on)

pub shape_of-ledger-then-at-end : goal.shape_of-ledger-then-at-end
shape_of-ledger-then-at-end c = c.loop-at.invariant.0

pub returns-then-at-end : goal.returns-then-at-end
returns-then-at-end c = ap Err c.in_evidence-then-at-end.ensures ∙ sym ((run_refused _ _ _ _).1 (line_more c.loop-at.invariant.1.after c.seek-stop.ensures (omega (arith, c.seek-stop.ensures, c.if-stop-end.false)) (sym c.same.ensures ∙ c.if-same.true) c.if-at-end.true))

pub first_bad-found-requires : goal.first_bad-found-requires
first_bad-found-requires c = let limits = c.loop-at.invariant.1.limited in omega (arith, limits.users, limits.goals)

pub shape_of-ledger-then-same : goal.shape_of-ledger-then-same
shape_of-ledger-then-same c = c.loop-at.invariant.0

pub returns-then-same : goal.returns-then-same
returns-then-same c = reached_last c.loop-at.invariant.1 c.seek-stop.ensures (omega (arith, c.seek-stop.ensures, c.if-stop-end.false)) (sym c.same.ensures ∙ c.if-same.true) c.if-at-end.false c.first_bad-found.ensures c.ending.ensures

pub shape_of-ledger-in_default : goal.shape_of-ledger-in_default
shape_of-ledger-in_default c = c.loop-at.invariant.0

pub unwrap_err-requires : goal.unwrap_err-requires
unwrap_err-requires c = rw c.in_default.is refl

pub returns-in_default : goal.returns-in_default
returns-in_default c = ap Err c.in_evidence-in_default.ensures ∙ reached_bad (line c.loop-at.invariant.1 c.seek-stop.ensures (omega (arith, c.seek-stop.ensures, c.if-stop-end.false)) (sym c.same.ensures ∙ c.if-same.false) c.read_line-answer.ensures) c.unwrap_err.ensures

pub overflow_add-steps : goal.overflow_add-steps
overflow_add-steps c = omega (arith, c.loop-at.invariant.1.after.on)

pub try_next-broken-requires : goal.try_next-broken-requires
try_next-broken-requires c = (omega arith, c.loop-at.invariant.1.limited, step_range (line c.loop-at.invariant.1 c.seek-stop.ensures (omega (arith, c.seek-stop.ensures, c.if-stop-end.false)) (sym c.same.ensures ∙ c.if-same.false) c.read_line-answer.ensures) c.in-Ok.is)

pub enter_new-known-requires : goal.enter_new-known-requires
enter_new-known-requires c = (subst⁻¹ (λ (n : ℕ). ledger_words ≤ n) (c.try_next-broken.auto.ledger ∙ c.loop-at.invariant.0) c.requires.0, c.loop-at.invariant.1.limited, step_room (line c.loop-at.invariant.1 c.seek-stop.ensures (omega (arith, c.seek-stop.ensures, c.if-stop-end.false)) (sym c.same.ensures ∙ c.if-same.false) c.read_line-answer.ensures) c.in-Ok.is)

pub loop-at-smaller : goal.loop-at-smaller
loop-at-smaller c = omega (arith, c.seek-stop.ensures, c.loop-at-test.true)

pub loop-at-preserved : goal.loop-at-preserved
loop-at-preserved c = (c.enter_new-known.auto.ledger ∙ c.try_next-broken.auto.ledger ∙ c.loop-at.invariant.0, step_next (line c.loop-at.invariant.1 c.seek-stop.ensures (omega (arith, c.seek-stop.ensures, c.if-stop-end.false)) (sym c.same.ensures ∙ c.if-same.false) c.read_line-answer.ensures) c.in-Ok.is _ _ _ c.try_next-broken.ensures c.enter_new-known.ensures)

pub shape_of-ledger : goal.shape_of-ledger
shape_of-ledger c = c.loop-at.invariant.0

pub returns : goal.returns
returns c = ap Err c.in_evidence-2.ensures ∙ sym ((run_refused _ _ _ _).1 (no_line_lem c.loop-at.invariant.1.after c.loop-at-test.false))
