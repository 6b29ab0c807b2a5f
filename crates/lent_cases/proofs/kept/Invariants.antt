-- `kept` counts at most one byte for each place that it passes.
use Rattle.std.proofs.Common.{◌≤◌}
use Rattle.lent_cases.proofs.kept.Given as goal

abbrev pub invariant-loop-at : goal.invariant-loop-at
invariant-loop-at l = l.count ≤ l.at
