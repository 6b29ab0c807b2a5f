-- `sets_of` goes through the members from the lowest on; the invariant: the answer is what is joined so far with the sets of those that are left.
use Rattle.sheets.specs.Words.{set_in}
use Rattle.sheets.specs.Joining.{joined_start, joined_step, joined_end}
use Rattle.sheets.proofs.sets_of.Goals as goal

pub loop-role-init : goal.loop-role-init
loop-role-init c = rw (c.into_iter-role-iterator.ensures.into_iter_gives, c.roles-role-items.ensures) (joined_start (set_in c.args.sheet.now c.args.column) c.args.members c.empty-all.ensures)

pub loop-role-preserved : goal.loop-role-preserved
loop-role-preserved c = joined_step (set_in c.args.sheet.now c.args.column) c.loop-role.all c.loop-role.role-iterator.left c.loop-role.invariant (c.in-Some.ensures).steps c.set_of.ensures c.union-all.ensures

pub returns : goal.returns
returns c = joined_end (set_in c.args.sheet.now c.args.column) c.loop-role.all c.loop-role.role-iterator.left c.loop-role.invariant (c.in-None.ensures).steps
