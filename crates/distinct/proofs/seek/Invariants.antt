-- `seek` follows the name in the tree as `Walk` does. Each step leads to a later place of the tree, so the places left are the measure.
use Rattle.std.proofs.Common.{◌+◌, ◌-◌, length}
use Rattle.distinct.specs.Walk.{Walk}
use Rattle.distinct.proofs.seek.Given as goal

abbrev pub invariant-loop-heads : goal.invariant-loop-heads
invariant-loop-heads l = Walk l.field l.links l.heads l.head l.from l.at l.place

abbrev pub decreases-loop-heads : goal.decreases-loop-heads
decreases-loop-heads l = length l.field + 1 - l.place
