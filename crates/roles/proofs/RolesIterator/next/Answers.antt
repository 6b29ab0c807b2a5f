-- `next` takes the lowest role out, and one role fewer is left.
use Rattle.std.proofs.Common.{◌<◌, sym, ◌∙◌}
use Rattle.roles.specs.Taking.{many, taken_some, taken_none, taken_fewer}
use Rattle.roles.proofs.RolesIterator.next.Goals as goal

pub returns-in_err-role-clause-steps : goal.returns-in_err-role-clause-steps
returns-in_err-role-clause-steps c = rw c.from_residual.ensures (taken_none _ (sym (c.in_err-role.was) ∙ c.lowest.ensures))

pub returns-clause-steps : goal.returns-clause-steps
returns-clause-steps c = taken_some _ c.in_ok-role.ensures c.without-self.ensures

pub returns-clause-goes : goal.returns-clause-goes
returns-clause-goes c =
    let fewer : many c.without-self.result < many c.args.self.now.left = taken_fewer (taken_some _ c.in_ok-role.ensures c.without-self.ensures) in
    record { on = λ _. (tt, tt, fewer); keeps = tt; rests = λ _. tt }
