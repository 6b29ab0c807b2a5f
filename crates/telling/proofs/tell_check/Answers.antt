-- `tell_check`: the user's number from 1 is small.
use Rattle.std.proofs.Common.{arith}
use Rattle.telling.proofs.tell_check.Goals as goal

pub overflow_add-user : goal.overflow_add-user
overflow_add-user c = omega (arith, c.requires.1.below _ _ _ _ c.in-Attacked.is)
