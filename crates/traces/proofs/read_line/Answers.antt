-- `read_line` goes from tab to tab: the fields passed and the pieces of what is left are those of the line.
use Rattle.std.proofs.Common.{◌∙◌}
use Rattle.fields.specs.Cutting.{one_field_lem, two_fields_lem, three_fields_lem, four_fields_lem, more_fields}
use Rattle.traces.specs.TraceLines.{line_of, step_formed, comes_to, judged}
use Rattle.traces.specs.TraceLineLaws.{by_fields}
use Rattle.traces.proofs.read_line.Goals as goal

pub returns-then-a-end : goal.returns-then-a-end
unfolding line_of judged comes_to step_formed
returns-then-a-end c = by_fields _ _ _ _ (one_field_lem c.seek-a.ensures c.if-a-end.true)

pub returns-then-b-end : goal.returns-then-b-end
unfolding line_of
returns-then-b-end c = c.leave_line.ensures _ _ ∙ by_fields _ _ _ _ (two_fields_lem c.seek-a.ensures c.if-a-end.false c.seek-b.ensures c.if-b-end.true)

pub returns-then-d-end : goal.returns-then-d-end
unfolding line_of
returns-then-d-end c = c.join_line.ensures _ _ ∙ by_fields _ _ _ _ (three_fields_lem c.seek-a.ensures c.if-a-end.false c.seek-b.ensures c.if-b-end.false c.seek-d.ensures c.if-d-end.true)

pub returns-then-e-end : goal.returns-then-e-end
unfolding line_of judged comes_to step_formed
returns-then-e-end c = by_fields _ _ _ _ (more_fields c.seek-a.ensures c.if-a-end.false c.seek-b.ensures c.if-b-end.false c.seek-d.ensures c.if-d-end.false c.seek-e.ensures c.if-e-end.true).2

pub returns : goal.returns
unfolding line_of
returns c = c.step_line.ensures ∙ by_fields _ _ _ _ (four_fields_lem c.seek-a.ensures c.if-a-end.false c.seek-b.ensures c.if-b-end.false c.seek-d.ensures c.if-d-end.false c.seek-e.ensures c.if-e-end.false)
