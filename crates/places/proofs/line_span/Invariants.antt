-- `line_span` goes from line to line: the line so many lines on from here is the line asked for.
use Rattle.std.proofs.Common.{◌-◌, ◌≤◌, length, ◌≡◌}
use Rattle.places.specs.Place.{span_of}
use Rattle.places.proofs.line_span.Given as goal

abbrev pub invariant-loop : goal.invariant-loop
invariant-loop l = record { inside : l.at ≤ length l.text; line : span_of l.text 0 (l.number - 1) ≡ span_of l.text l.at (l.number - l.counter) }
