-- `all_names` goes from comma to comma: the test of all pieces is that of what is left.
use Rattle.std.proofs.Common.{rules, refl, sym, ◌∙◌}
use Rattle.fields.specs.Sets.{first_fails, first_holds}
use Rattle.text.specs.Forms.{every, is_name}
use Rattle.text.specs.PieceLaws.{sought_cut, sought_some, sought_last}
use Rattle.fields.proofs.all_names.Goals as goal

pub loop-at-init : goal.loop-at-init
loop-at-init c = (search rules, refl)

pub returns-then-not-is_name : goal.returns-then-not-is_name
returns-then-not-is_name c = sym (c.loop-at.invariant.1 ∙ first_fails is_name (sought_cut _ _ 44 _ c.loop-at.invariant.0 c.seek-end.ensures).pieces (sym c.is_name.ensures ∙ c.if-not-is_name.true))

pub returns-then-end-field : goal.returns-then-end-field
unfolding every
returns-then-end-field c = sym (c.loop-at.invariant.1 ∙ first_holds is_name (sought_last _ _ 44 _ c.loop-at.invariant.0 c.seek-end.ensures c.if-end-field.true) (sym c.is_name.ensures ∙ c.if-not-is_name.false))

pub loop-at-preserved : goal.loop-at-preserved
loop-at-preserved c = (search rules, c.loop-at.invariant.1 ∙ first_holds is_name (sought_some _ _ 44 _ c.seek-end.ensures (search rules)) (sym c.is_name.ensures ∙ c.if-not-is_name.false))
