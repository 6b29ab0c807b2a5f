-- `first_failing` goes through the rows of a part that are counted; the invariant: those passed over pass.
use Rattle.std.proofs.Common.{◌≤◌, arith}
use Rattle.judging.specs.First.{none_fails, one_fails}
use Rattle.judging.proofs.first_failing.Goals as goal

pub returns-then-not-passes : goal.returns-then-not-passes
returns-then-not-passes g c = one_fails c.loop-place-test.true c.loop-place.invariant c.if-not-passes.ensures

pub returns : goal.returns
returns g c = none_fails (λ place here. c.loop-place.invariant place (omega arith))
