-- `all_names` goes from comma to comma: the test of all pieces is that of what is left.
use Rattle.std.proofs.Common.{◌-◌, ◌≤◌, length, drop, ◌≡◌}
use Rattle.text.specs.Forms.{every, is_name}
use Rattle.text.specs.Pieces.{split}
use Rattle.fields.proofs.all_names.Given as goal

abbrev pub invariant-loop-at : goal.invariant-loop-at
invariant-loop-at l = (l.at ≤ length l.field) × (every is_name (split 44 l.field) ≡ every is_name (split 44 (drop l.at l.field)))

abbrev pub decreases-loop-at : goal.decreases-loop-at
decreases-loop-at l = length l.field - l.at
