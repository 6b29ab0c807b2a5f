-- `read_policy` goes from line to line: the ledger says what the lines so far say, and the rest of the text decides.
use Rattle.std.proofs.Common.{ℕ, rules, List, ◌+◌, ◌-◌, ◌<◌, eqb, length, false, ◌≡◌, refl, sym, ap, Ok, ◌∙◌, arith}
use Rattle.std.proofs.Math.Path.{subst⁻¹}
use Rattle.text.specs.Pieces.{Sought}
use Rattle.text.specs.PieceLaws.{part_short}
use Rattle.walking.specs.TextLaws.{text_long}
use Rattle.lines.specs.declared.Entry.{Entry}
use Rattle.lines.specs.Lines.{end_kind}
use Rattle.reading.specs.Policy.{nothing, kind_of, judge_line, read_policy}
use Rattle.reading.specs.Header.{headless}
use Rattle.reading.specs.Between.{Between, between_start, between_limited, between_end, between_tail, between_bad, between_fits, between_added, between_last, between_more, into_refused, into_read}
use Rattle.reading.proofs.read_policy.Goals as goal

-- a line that is not the last
not_end : (e : Entry) → (e ≡ Entry.End → ⊥) → eqb (kind_of e) end_kind ≡ false
unfolding kind_of
not_end Entry.Header other = refl
not_end (Entry.Role name) other = refl
not_end (Entry.User name clearance) other = refl
not_end (Entry.Has holder held) other = refl
not_end (Entry.Assign rule) other = refl
not_end (Entry.Revoke rule) other = refl
not_end (Entry.Goal goal) other = refl
not_end Entry.End other = absurd (other refl)

-- the line that was sought ends within the text,
inside : (text : List ℕ) (from : ℕ) {stop : ℕ} → Sought text from 10 stop → (stop ≡ length text → ⊥) → stop < length text
inside text from sought more = omega (arith, sought.within)

-- and the measure falls with the next
nearer : (text : List ℕ) (from : ℕ) {stop : ℕ} → Sought text from 10 stop → from < length text → length text - (stop + 1) < length text - from
nearer text from sought more = omega (arith, sought.first)

pub returns-then-end-gt32768 : goal.returns-then-end-gt32768
unfolding read_policy
returns-then-end-gt32768 c = into_refused (text_long judge_line 11 10 nothing c.args.text.now c.if-end-gt32768.true) (search rules)

pub returns-then-not-begins_with : goal.returns-then-not-begins_with
returns-then-not-begins_with c = into_refused (headless _ c.if-end-gt32768.false (sym c.begins_with.ensures ∙ c.if-not-begins_with.true)) (search rules)

pub loop-at-init : goal.loop-at-init
loop-at-init c = (refl, subst⁻¹ (Between c.args.text.now 0 1 c.args.ledger.now) c.none-c.ensures (between_start c.args.text.now c.args.ledger.now c.requires c.if-end-gt32768.false))

pub seek-stop-requires : goal.seek-stop-requires
seek-stop-requires c = c.loop-at.invariant.1.on.within

pub returns-then-stop-end : goal.returns-then-stop-end
returns-then-stop-end c = into_refused (between_tail c.loop-at.invariant.1 c.seek-stop.ensures c.if-stop-end.true) (search rules)

pub slice_bounds-read_line-count : goal.slice_bounds-read_line-count
slice_bounds-read_line-count c = omega (arith, c.seek-stop.ensures)

pub read_line-answer-requires : goal.read_line-answer-requires
read_line-answer-requires c = (part_short c.args.text.now c.loop-at.at c.seek-stop.result c.loop-at.invariant.1.on.short, c.loop-at.invariant.1.room, between_limited c.loop-at.invariant.1)

pub overflow_add-at : goal.overflow_add-at
overflow_add-at c = omega (arith, c.seek-stop.ensures, c.loop-at.invariant.1.on.short)

pub overflow_add-number : goal.overflow_add-number
overflow_add-number c = omega (arith, c.loop-at.invariant.1.on)

pub returns-in_default : goal.returns-in_default
returns-in_default c = into_refused (between_bad c.loop-at.invariant.1 c.seek-stop.ensures (inside _ _ c.seek-stop.ensures c.if-stop-end.false) c.read_line-answer.ensures c.in_default.is) (search rules)

pub returns-then-at-end : goal.returns-then-at-end
returns-then-at-end c = into_refused (between_more c.loop-at.invariant.1 c.seek-stop.ensures (inside _ _ c.seek-stop.ensures c.if-stop-end.false) c.read_line-answer.ensures (c.in-Ok.is ∙ ap Ok c.in-End.is) c.if-at-end.true) (search rules)

pub returns-in-End : goal.returns-in-End
returns-in-End c = into_read (between_last c.loop-at.invariant.1 c.seek-stop.ensures (inside _ _ c.seek-stop.ensures c.if-stop-end.false) c.read_line-answer.ensures (c.in-Ok.is ∙ ap Ok c.in-End.is) c.if-at-end.false) refl

pub enter-c-requires : goal.enter-c-requires
enter-c-requires c = (c.loop-at.invariant.1.room, between_limited c.loop-at.invariant.1, between_fits c.loop-at.invariant.1 c.seek-stop.ensures (inside _ _ c.seek-stop.ensures c.if-stop-end.false) c.read_line-answer.ensures c.in-Ok.is)

pub loop-at-smaller : goal.loop-at-smaller
loop-at-smaller c = nearer _ _ c.seek-stop.ensures c.loop-at-test.true

pub loop-at-preserved : goal.loop-at-preserved
loop-at-preserved c = let long : length c.enter-c.new.ledger ≡ length c.loop-at.ledger = search rules in
    (long ∙ c.loop-at.invariant.0, between_added c.loop-at.invariant.1 c.seek-stop.ensures (inside _ _ c.seek-stop.ensures c.if-stop-end.false) c.read_line-answer.ensures c.in-Ok.is (not_end c.in-Ok.entry c.in_default-entry.not-End) (omega (arith, c.loop-at.invariant.1.room, long)) c.enter-c.ensures)

pub returns : goal.returns
returns c = into_refused (between_end c.loop-at.invariant.1 c.loop-at-test.false) (search rules)
