-- `read_set` goes from comma to comma: all names so far are well formed, declared and different, and their roles are the set.
use Rattle.std.proofs.Common.{◌-◌, ◌≤◌, length}
use Rattle.fields.specs.Sets.{Walked}
use Rattle.tables.specs.Listed.{rows_of}
use Rattle.fields.proofs.read_set.Given as goal

abbrev pub invariant-loop-place : goal.invariant-loop-place
invariant-loop-place l = (l.at ≤ length l.field) × Walked (rows_of l.names) l.field l.at l.roles

abbrev pub decreases-loop-place : goal.decreases-loop-place
decreases-loop-place l = length l.field - l.at
