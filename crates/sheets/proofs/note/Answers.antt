-- `note` goes through the members from the lowest on; the invariant: those that are not left have the role in their sets.
use Rattle.std.proofs.Common.{ap, ◌∙◌}
use Rattle.roles.specs.declared.RoleSet.{RoleSet}
use Rattle.roles.specs.Sets.{with_of}
use Rattle.sheets.specs.Noting.{noted_start, noted_step, noted_end}
use Rattle.sheets.proofs.note.Goals as goal

pub loop-other-init : goal.loop-other-init
loop-other-init c = rw (c.into_iter-other-iterator.ensures.into_iter_gives, c.roles-other-items.ensures) (noted_start c.args.column c.args.role c.args.members c.args.sheet.now)

pub loop-other-preserved : goal.loop-other-preserved
loop-other-preserved c = noted_step c.loop-other.invariant c.put.new.sheet (c.in-Some.ensures).steps
    (c.with-named.ensures ∙ ap (λ (s : RoleSet). with_of s c.args.role) c.set_of.ensures) c.put.ensures

pub returns : goal.returns
returns c = noted_end c.loop-other.invariant (c.in-None.ensures).steps
