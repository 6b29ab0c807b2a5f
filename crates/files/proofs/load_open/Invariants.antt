-- A read fills no more than the part of the buffer still free, so the count stays within it and comes nearer to its end.
use Rattle.std.proofs.Common.{◌-◌, ◌≤◌}
use Rattle.files.proofs.load_open.Given as goal

abbrev pub invariant-loop-count : goal.invariant-loop-count
invariant-loop-count g l = l.count ≤ l.end

abbrev pub decreases-loop-count : goal.decreases-loop-count
decreases-loop-count g l = l.end - l.count
