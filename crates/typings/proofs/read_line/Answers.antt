-- `read_line` goes from tab to tab: the fields passed and the pieces of what is left are those of the line.
use Rattle.std.proofs.Common.{◌+◌, ◌∙◌}
use Rattle.fields.specs.Cutting.{one_field_lem, two_fields_lem, three_fields_lem, four_fields_lem, more_fields}
use Rattle.typings.specs.TypingLines.{line_of}
use Rattle.typings.specs.TypingLineLaws.{other-judged, by_fields}
use Rattle.tables.specs.Listed.{rows_of}
use Rattle.tables.specs.NameLaws.{rows_length}
use Rattle.text.specs.PieceLaws.{part_short}
use Rattle.typings.proofs.read_line.Goals as goal

pub returns-then-a-end : goal.returns-then-a-end
unfolding line_of
returns-then-a-end c = c.end_line.ensures (rows_of c.args.roles) (rows_length _ _) ∙ by_fields _ _ _ (one_field_lem c.seek-a.ensures c.if-a-end.true)

pub returns-then-b-end : goal.returns-then-b-end
unfolding line_of
returns-then-b-end c = c.header_line.ensures _ ∙ by_fields _ _ _ (two_fields_lem c.seek-a.ensures c.if-a-end.false c.seek-b.ensures c.if-b-end.true)

pub returns-then-d-end : goal.returns-then-d-end
unfolding line_of
returns-then-d-end c = other-judged _ _ ∙ by_fields _ _ _ (three_fields_lem c.seek-a.ensures c.if-a-end.false c.seek-b.ensures c.if-b-end.false c.seek-d.ensures c.if-d-end.true)

pub returns-then-e-end : goal.returns-then-e-end
unfolding line_of
returns-then-e-end c = other-judged _ _ ∙ by_fields _ _ _ (more_fields c.seek-a.ensures c.if-a-end.false c.seek-b.ensures c.if-b-end.false c.seek-d.ensures c.if-d-end.false c.seek-e.ensures c.if-e-end.true).2

pub row_line-requires : goal.row_line-requires
row_line-requires c = (part_short c.args.line.now (c.seek-b.result + 1) c.seek-d.result c.requires.0, part_short c.args.line.now (c.seek-d.result + 1) c.seek-e.result c.requires.0, c.requires.1)

pub returns : goal.returns
unfolding line_of
returns c = c.row_line.ensures ∙ by_fields _ _ _ (four_fields_lem c.seek-a.ensures c.if-a-end.false c.seek-b.ensures c.if-b-end.false c.seek-d.ensures c.if-d-end.false c.seek-e.ensures c.if-e-end.false)
