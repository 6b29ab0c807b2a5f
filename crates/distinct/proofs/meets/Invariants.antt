-- `meets` looks up name after name in the tree: none up to a place is among those of the tree.
use Rattle.std.proofs.Common.{◌+◌, ◌-◌, ◌≤◌, length, [], ◌≡◌}
use Rattle.distinct.specs.Names.{before, names}
use Rattle.distinct.specs.Blocks.{Apart}
use Rattle.distinct.proofs.meets.Given as goal

abbrev pub invariant-loop-from : goal.invariant-loop-from
invariant-loop-from l = (l.limit ≤ l.from) × (l.from ≤ length l.field + 1) × (before l.field l.from ≡ []) × Apart l.field (names l.field l.limit) l.limit l.from

abbrev pub decreases-loop-from : goal.decreases-loop-from
decreases-loop-from l = length l.field + 1 - l.from
