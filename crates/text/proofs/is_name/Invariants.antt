-- `is_name` goes through the bytes by eights: the test of all is the test of what is left, and the last eight decide it.
use Rattle.std.proofs.Common.{◌-◌, ◌≤◌, length, drop, ◌≡◌}
use Rattle.text.specs.Forms.{every, name_byte}
use Rattle.text.proofs.is_name.Given as goal

abbrev pub invariant-loop-at : goal.invariant-loop-at
invariant-loop-at l = (l.at ≤ length l.field) × (every name_byte l.field ≡ every name_byte (drop l.at l.field))

abbrev pub decreases-loop-at : goal.decreases-loop-at
decreases-loop-at l = length l.field - l.at
