-- `read_set` goes from comma to comma: all names so far are well formed, declared and different, and their roles are the set.
use Rattle.std.proofs.Common.{◌+◌, rules, refl, sym, ap, ◌∙◌, Ok, Err}
use Rattle.std.proofs.Math.Path.{subst⁻¹}
use Rattle.fields.specs.FieldLaws.{name_found, few_rows}
use Rattle.fields.specs.Sets.{Walked, walked_start, walk_faulty, walk_repeated, walk_next, walk_last, empty_set_lem}
use Rattle.roles.specs.Sets.{has_role, with_of}
use Rattle.tables.specs.Listed.{rows_of}
use Rattle.text.specs.PieceLaws.{sought_cut, sought_some, sought_last}
use Rattle.fields.proofs.read_set.Goals as goal

pub returns-then-same : goal.returns-then-same
returns-then-same c = ap Ok c.empty-roles.ensures ∙ empty_set_lem _ _ (sym c.same.ensures ∙ c.if-same.true)

pub loop-place-init : goal.loop-place-init
loop-place-init c = (search rules, subst⁻¹ (Walked (rows_of c.args.names) c.args.field.now 0) c.empty-roles.ensures (walked_start _ _))

pub returns-in-Err : goal.returns-in-Err
returns-in-Err c = ap Err c.set_fault.ensures ∙ walk_faulty (rows_of c.args.names) _ (sym c.same.ensures ∙ c.if-same.false) (few_rows c.args.names.count c.args.names.words.now c.requires.1) c.loop-place.invariant.1 _ _ (sought_cut _ _ 44 _ c.loop-place.invariant.0 c.seek-end.ensures).pieces (sym c.in-Err.is ∙ c.read_name.ensures)

pub returns-then-has : goal.returns-then-has
returns-then-has c =
    let (form, known, at) = name_found _ _ (sym c.in-Ok.is ∙ c.read_name.ensures) in
    walk_repeated (rows_of c.args.names) _ (sym c.same.ensures ∙ c.if-same.false) (few_rows c.args.names.count c.args.names.words.now c.requires.1) c.loop-place.invariant.1 _ _ (sought_cut _ _ 44 _ c.loop-place.invariant.0 c.seek-end.ensures).pieces form known (ap (has_role c.loop-place.roles) (sym at) ∙ sym c.has.ensures ∙ c.if-has.true)

pub returns-then-end-field : goal.returns-then-end-field
returns-then-end-field c =
    let (form, known, at) = name_found _ _ (sym c.in-Ok.is ∙ c.read_name.ensures) in
    ap Ok (c.with-roles.ensures ∙ ap (with_of c.loop-place.roles) at) ∙ walk_last (rows_of c.args.names) _ (sym c.same.ensures ∙ c.if-same.false) (few_rows c.args.names.count c.args.names.words.now c.requires.1) c.loop-place.invariant.1 _ _ (sought_last _ _ 44 _ c.loop-place.invariant.0 c.seek-end.ensures c.if-end-field.true) form known (ap (has_role c.loop-place.roles) (sym at) ∙ sym c.has.ensures ∙ c.if-has.false) refl

pub loop-place-preserved : goal.loop-place-preserved
loop-place-preserved c =
    let (form, known, at) = name_found _ _ (sym c.in-Ok.is ∙ c.read_name.ensures) in
    (search rules, subst⁻¹ (Walked (rows_of c.args.names) c.args.field.now (c.seek-end.result + 1)) (c.with-roles.ensures ∙ ap (with_of c.loop-place.roles) at) (walk_next (rows_of c.args.names) _ (sym c.same.ensures ∙ c.if-same.false) (few_rows c.args.names.count c.args.names.words.now c.requires.1) c.loop-place.invariant.1 _ _ (sought_some _ _ 44 _ c.seek-end.ensures (search rules)) form known (ap (has_role c.loop-place.roles) (sym at) ∙ sym c.has.ensures ∙ c.if-has.false) (c.seek-end.result + 1) refl))
