-- `name_at` goes from byte to byte of the name: the number mixed so far is that of the bytes before the place.
use Rattle.std.proofs.Common.{◌+◌, ◌-◌, ◌≤◌, length, ◌≡◌}
use Rattle.distinct.specs.Names.{before}
use Rattle.distinct.specs.Plain.{Plain}
use Rattle.distinct.specs.Heads.{mixed}
use Rattle.distinct.proofs.name_at.Given as goal

abbrev pub invariant-loop-head : goal.invariant-loop-head
invariant-loop-head l = (l.at ≤ length l.field) × (l.sum ≡ mixed l.factor (before l.field l.at)) × Plain l.field l.from l.at

abbrev pub decreases-loop-head : goal.decreases-loop-head
decreases-loop-head l = length l.field + 1 - l.at
