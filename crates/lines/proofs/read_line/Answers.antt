-- `read_line` goes from tab to tab: the parts between them are the fields of the line.
use Rattle.std.proofs.Common.{◌+◌, sym, ap, ◌∙◌, arith}
use Rattle.fields.specs.Cutting.{one_field_lem, two_fields_lem, three_fields_lem, four_fields_lem, five_fields_lem, beyond_five}
use Rattle.lines.specs.Lines.{judged, policy_line}
use Rattle.lines.specs.LineLaws.{other_judged, line_one, line_two, line_three, line_four, line_five, line_five_other, line_more}
use Rattle.text.specs.PieceLaws.{part_short}
use Rattle.lines.proofs.read_line.Goals as goal

pub returns-then-a-end : goal.returns-then-a-end
unfolding policy_line
returns-then-a-end c = c.one_field.ensures _ _ ∙ ap (judged _ _ _) (line_one _ (one_field_lem c.seek-a.ensures c.if-a-end.true))

pub returns-then-b-end : goal.returns-then-b-end
unfolding policy_line
returns-then-b-end c = c.two_fields.ensures _ ∙ ap (judged _ _ _) (line_two _ (two_fields_lem c.seek-a.ensures c.if-a-end.false c.seek-b.ensures c.if-b-end.true))

pub returns-then-d-end : goal.returns-then-d-end
unfolding policy_line
returns-then-d-end c = c.three_fields.ensures ∙ ap (judged _ _ _) (line_three _ (three_fields_lem c.seek-a.ensures c.if-a-end.false c.seek-b.ensures c.if-b-end.false c.seek-d.ensures c.if-d-end.true))

pub returns-then-e-end : goal.returns-then-e-end
unfolding policy_line
returns-then-e-end c = other_judged _ _ _ ∙ ap (judged _ _ _) (line_four _ (four_fields_lem c.seek-a.ensures c.if-a-end.false c.seek-b.ensures c.if-b-end.false c.seek-d.ensures c.if-d-end.false c.seek-e.ensures (omega (arith, c.if-e-end.true))))

pub seek-f-requires : goal.seek-f-requires
seek-f-requires c = omega (arith, c.seek-e.ensures, c.if-e-end.false)

pub returns-then-f-end : goal.returns-then-f-end
unfolding policy_line
returns-then-f-end c = other_judged _ _ _ ∙ ap (judged _ _ _) (line_more _ _ (beyond_five c.seek-a.ensures c.if-a-end.false c.seek-b.ensures c.if-b-end.false c.seek-d.ensures c.if-d-end.false c.seek-e.ensures c.if-e-end.false c.seek-f.ensures c.if-f-end.true))

pub assign_line-requires : goal.assign_line-requires
assign_line-requires c = (part_short c.args.line.now (c.seek-b.result + 1) c.seek-d.result c.requires.0, part_short c.args.line.now (c.seek-d.result + 1) c.seek-e.result c.requires.0, c.requires.1)

pub returns-then-same : goal.returns-then-same
unfolding policy_line
returns-then-same c = c.assign_line.ensures _ ∙ ap (judged _ _ _) (line_five _ (five_fields_lem c.seek-a.ensures c.if-a-end.false c.seek-b.ensures c.if-b-end.false c.seek-d.ensures c.if-d-end.false c.seek-e.ensures c.if-e-end.false c.seek-f.ensures c.if-f-end.false) (sym c.same.ensures ∙ c.if-same.true))

pub returns : goal.returns
unfolding policy_line
returns c = other_judged _ _ _ ∙ ap (judged _ _ _) (line_five_other _ (five_fields_lem c.seek-a.ensures c.if-a-end.false c.seek-b.ensures c.if-b-end.false c.seek-d.ensures c.if-d-end.false c.seek-e.ensures c.if-e-end.false c.seek-f.ensures c.if-f-end.false) (sym c.same.ensures ∙ c.if-same.false))
