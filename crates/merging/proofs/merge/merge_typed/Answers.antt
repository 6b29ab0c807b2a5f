-- `merge_typed` reads typing two over the second ledger, and hands both ledgers on.
use Rattle.std.proofs.Common.{sym, ◌∙◌, arith}
use Rattle.summing.specs.Layout.{typing_read_lem, typing_refused}
use Rattle.summing.specs.Meeting.{meets_as, meets_leaving}
use Rattle.merging.specs.Halves.{one_room, two_room}
use Rattle.merging.specs.MergeOutcomes.{typing_two_refused, all_read}
use Rattle.merging.proofs.merge.merge_typed.Goals as goal

pub read_typing-requires : goal.read_typing-requires
read_typing-requires c = c.requires.2.roles

pub invariant_of-roles : goal.invariant_of-roles
invariant_of-roles c = record { within = omega (arith, two_room c.args.memory.now c.requires.0, c.requires.2.roles) }

pub returns-in-Err : goal.returns-in-Err
returns-in-Err c = meets_leaving (typing_two_refused _ _ _ _ _ (typing_refused _ _ _ (sym c.in-Err.is ∙ c.read_typing.ensures)))

pub slice_bounds-merge_read-end : goal.slice_bounds-merge_read-end
slice_bounds-merge_read-end c = sym (one_room c.args.memory.now c.requires.0)

pub merge_read-requires : goal.merge_read-requires
merge_read-requires c = (omega (arith, one_room c.args.memory.now c.requires.0), c.requires.1, two_room c.args.memory.now c.requires.0, c.requires.2)

pub returns : goal.returns
returns c = let u = typing_read_lem _ _ _ (sym c.in-Ok.is ∙ c.read_typing.ensures) in
    meets_as (all_read _ _ _ _ _ u.is u.laid) c.merge_read.ensures
