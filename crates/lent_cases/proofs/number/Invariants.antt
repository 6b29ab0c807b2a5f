-- `number` stops as soon as the value is above the largest buffer, so the next digit never overflows it.
use Rattle.std.proofs.Common.{◌<◌}
use Rattle.lent_cases.proofs.number.Given as goal

abbrev pub invariant-loop-byte : goal.invariant-loop-byte
invariant-loop-byte l = l.value < 400016
