-- `sum_of` goes through the roles; the invariant: each array is the sum below this role, and the first typing's from it on.
use Rattle.std.proofs.Common.{arith}
use Rattle.summing.specs.Summing.{summed_start, summed_next, summed_end}
use Rattle.summing.proofs.sum_of.Goals as goal

pub loop-role-init : goal.loop-role-init
loop-role-init c = summed_start
    (record { labels = c.well_formed.0.1.1.0.1.0.1; plus = c.well_formed.0.1.1.1.0.1.0.1; minus = c.well_formed.0.1.1.1.1.0.1.0.1 })
    (record { labels = c.well_formed.1.0.1.1.0.1.0.1; plus = c.well_formed.1.0.1.1.1.0.1.0.1; minus = c.well_formed.1.0.1.1.1.1.0.1.0.1 })

pub loop-role-preserved : goal.loop-role-preserved
loop-role-preserved c = summed_next c.loop-role.invariant (omega (arith, c.loop-role-test.true)) _ _ c.union.ensures c.union-in-loop-role.ensures

pub returns : goal.returns
returns c = summed_end c.loop-role.invariant (omega (arith, c.loop-role-test.false))
