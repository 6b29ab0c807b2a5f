-- `line_span` goes from line to line: the line so many lines on from here is the line asked for.
use Rattle.std.proofs.Common.{ℕ, ◌+◌, ◌-◌, ◌≡◌, sym, ap, ◌∙◌, arith}
use Rattle.places.specs.Place.{span_of}
use Rattle.places.specs.PlaceLaws.{span_skip, span_none, span_here, span_past}
use Rattle.places.proofs.line_span.Goals as goal

pub returns-then-stop-end : goal.returns-then-stop-end
returns-then-stop-end c = sym (c.loop.invariant.line ∙ span_none _ _ _ (omega arith) c.seek-stop.ensures c.if-stop-end.true)

pub loop-preserved : goal.loop-preserved
loop-preserved c =
    let here = c.args.number - c.loop.counter in
    let left : here - 1 ≡ c.args.number - (c.loop.counter + 1) = omega arith in
    record {
      inside = omega (arith, c.if-stop-end.false);
      line = c.loop.invariant.line ∙ span_skip _ _ _ (omega arith) c.seek-stop.ensures (omega (arith, c.if-stop-end.false)) ∙ ap (λ (k : ℕ). span_of c.args.text.now (c.seek-stop.result + 1) k) left;
    }

pub returns-then-at-end : goal.returns-then-at-end
returns-then-at-end c = span_past _ _ _ (omega arith) (omega arith) ∙ sym c.loop.invariant.line

pub returns : goal.returns
returns c = span_here _ _ _ (omega arith) (omega (arith, c.if-at-end.false)) c.seek.ensures ∙ sym c.loop.invariant.line
