-- `repeats` goes from block to block: the names before a block do not matter.
use Rattle.std.proofs.Common.{◌+◌, ◌-◌, ◌≤◌, length, ◌≡◌}
use Rattle.text.specs.Pieces.{split, repeated}
use Rattle.distinct.specs.Blocks.{repeated_from}
use Rattle.distinct.proofs.repeats.Given as goal

abbrev pub invariant-loop-base : goal.invariant-loop-base
invariant-loop-base l = (l.base ≤ length l.field + 1) × (repeated (split 44 l.field) ≡ repeated_from l.field l.base)

abbrev pub decreases-loop-base : goal.decreases-loop-base
decreases-loop-base l = length l.field + 1 - l.base
