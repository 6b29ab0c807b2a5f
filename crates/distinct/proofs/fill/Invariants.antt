-- `fill` puts name after name into the tree; a name that is found stands twice.
use Rattle.std.proofs.Common.{◌+◌, ◌-◌, ◌≤◌, length, ◌≡◌}
use Rattle.distinct.specs.Tree.{Tree}
use Rattle.distinct.proofs.fill.Given as goal

abbrev pub invariant-loop-from : goal.invariant-loop-from
invariant-loop-from l = (l.from ≤ length l.field + 1) × (length l.links ≡ length l.initial.links) × Tree l.field l.links l.heads l.from

abbrev pub decreases-loop-from : goal.decreases-loop-from
decreases-loop-from l = length l.field + 1 - l.from
