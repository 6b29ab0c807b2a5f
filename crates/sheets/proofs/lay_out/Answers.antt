-- `lay_out` goes through the roles below the limit; the invariant: the sheet and the roles labelled H are what the typing says of the roles passed.
use Rattle.std.proofs.Common.{ℕ, List, ap, ◌∙◌, arith}
use Rattle.std.proofs.Math.Path.{subst⁻¹}
use Rattle.roles.specs.declared.RoleSet.{RoleSet}
use Rattle.roles.specs.Sets.{empty_set}
use Rattle.model.specs.Meaning.{meaning}
use Rattle.sheets.specs.Turned.{add_if}
use Rattle.sheets.specs.Laying.{LaidBelow, laid_start, laid_step, laid_end}
use Rattle.sheets.proofs.lay_out.Goals as goal

pub loop-role-init : goal.loop-role-init
loop-role-init c = subst⁻¹ (λ (sheet : List ℕ). LaidBelow c.args.t 0 sheet c.empty-high.result) c.requires (laid_start c.args.t c.empty-high.ensures)

pub loop-role-preserved : goal.loop-role-preserved
unfolding meaning empty_set
loop-role-preserved c = laid_step c.loop-role.invariant c.put.ensures c.put-in-loop-role.ensures c.note.ensures c.note-in-loop-role.ensures
    (c.add_if-high.ensures ∙ ap (λ (s : RoleSet). add_if ((meaning c.args.t).label c.loop-role.role) s c.loop-role.high) c.single.ensures)

pub returns-clause-sheet_after : goal.returns-clause-sheet_after
returns-clause-sheet_after c = (laid_end c.loop-role.invariant c.args.roles (omega (arith, c.min-role-end.ensures))).0

pub returns-clause-sheet_after_2 : goal.returns-clause-sheet_after_2
returns-clause-sheet_after_2 c = (laid_end c.loop-role.invariant c.args.roles (omega (arith, c.min-role-end.ensures))).1
