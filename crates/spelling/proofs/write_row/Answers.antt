-- `write_row` writes a line in four pieces, each past the one before: the name, the label, the plus set, the minus set.
use Rattle.std.proofs.Common.{◌+◌, ◌≤◌, length, ◌++◌, ap, ◌∙◌, arith}
use Rattle.tables.specs.declared.Name.{Name}
use Rattle.tables.specs.Listed.{rows_of}
use Rattle.writing.specs.Written.{spelled}
use Rattle.writing.proofs.Buffers.{Wrote, back, wrote, written, wrote_as, wrote_more, wrote_within, room}
use Rattle.spelling.specs.TypingPieces.{field_text, label_field}
use Rattle.spelling.proofs.TypingSteps.{row_text_lem}
use Rattle.spelling.proofs.TypingLengths.{row_pieces}
use Rattle.spelling.proofs.write_row.Goals as goal

pub write_name-at-requires : goal.write_name-at-requires
write_name-at-requires c =
    let fits : let names = rows_of c.args.roles in length (spelled c.row.result) + length (label_field c.args.label) + length (field_text names c.args.plus 9) + length (field_text names c.args.minus 10) ≤ length c.args.out.now = row_pieces _ _ _ _ _ c.row.ensures c.requires.2 in
    omega (arith, fits)

pub slice_bounds-write_label-count : goal.slice_bounds-write_label-count
slice_bounds-write_label-count c =
    let fits : let names = rows_of c.args.roles in length (spelled c.row.result) + length (label_field c.args.label) + length (field_text names c.args.plus 9) + length (field_text names c.args.minus 10) ≤ length c.args.out.now = row_pieces _ _ _ _ _ c.row.ensures c.requires.2 in
    let named : Wrote (spelled c.row.result) c.args.out.now c.write_name-at.result c.write_name-at.new.out = wrote c.write_name-at.ensures in
    wrote_within named (omega (arith, fits))

pub write_label-at-requires : goal.write_label-at-requires
write_label-at-requires c =
    let fits : let names = rows_of c.args.roles in length (spelled c.row.result) + length (label_field c.args.label) + length (field_text names c.args.plus 9) + length (field_text names c.args.minus 10) ≤ length c.args.out.now = row_pieces _ _ _ _ _ c.row.ensures c.requires.2 in
    let named : Wrote (spelled c.row.result) c.args.out.now c.write_name-at.result c.write_name-at.new.out = wrote c.write_name-at.ensures in
    room (label_field c.args.label) named (omega (arith, fits))

pub overflow_add-at : goal.overflow_add-at
overflow_add-at c =
    let fits : let names = rows_of c.args.roles in length (spelled c.row.result) + length (label_field c.args.label) + length (field_text names c.args.plus 9) + length (field_text names c.args.minus 10) ≤ length c.args.out.now = row_pieces _ _ _ _ _ c.row.ensures c.requires.2 in
    omega (arith, fits)

pub slice_bounds-write_field-count : goal.slice_bounds-write_field-count
slice_bounds-write_field-count c =
    let fits : let names = rows_of c.args.roles in length (spelled c.row.result) + length (label_field c.args.label) + length (field_text names c.args.plus 9) + length (field_text names c.args.minus 10) ≤ length c.args.out.now = row_pieces _ _ _ _ _ c.row.ensures c.requires.2 in
    let named : Wrote (spelled c.row.result) c.args.out.now c.write_name-at.result c.write_name-at.new.out = wrote c.write_name-at.ensures in
    let labelled : Wrote (spelled c.row.result ++ label_field c.args.label) c.args.out.now (c.write_name-at.result + c.write_label-at.result) (back c.write_name-at.result c.write_name-at.new.out c.write_label-at.new.out) = wrote_more named (wrote c.write_label-at.ensures) in
    wrote_within labelled (omega (arith, fits))

pub write_field-at-requires : goal.write_field-at-requires
write_field-at-requires c =
    let fits : let names = rows_of c.args.roles in length (spelled c.row.result) + length (label_field c.args.label) + length (field_text names c.args.plus 9) + length (field_text names c.args.minus 10) ≤ length c.args.out.now = row_pieces _ _ _ _ _ c.row.ensures c.requires.2 in
    let named : Wrote (spelled c.row.result) c.args.out.now c.write_name-at.result c.write_name-at.new.out = wrote c.write_name-at.ensures in
    let labelled : Wrote (spelled c.row.result ++ label_field c.args.label) c.args.out.now (c.write_name-at.result + c.write_label-at.result) (back c.write_name-at.result c.write_name-at.new.out c.write_label-at.new.out) = wrote_more named (wrote c.write_label-at.ensures) in
    (c.requires.0, room (field_text (rows_of c.args.roles) c.args.plus 9) labelled (omega (arith, fits)))

pub overflow_add-at-2 : goal.overflow_add-at-2
overflow_add-at-2 c =
    let fits : let names = rows_of c.args.roles in length (spelled c.row.result) + length (label_field c.args.label) + length (field_text names c.args.plus 9) + length (field_text names c.args.minus 10) ≤ length c.args.out.now = row_pieces _ _ _ _ _ c.row.ensures c.requires.2 in
    omega (arith, fits)

pub slice_bounds-write_field-count-2 : goal.slice_bounds-write_field-count-2
slice_bounds-write_field-count-2 c =
    let fits : let names = rows_of c.args.roles in length (spelled c.row.result) + length (label_field c.args.label) + length (field_text names c.args.plus 9) + length (field_text names c.args.minus 10) ≤ length c.args.out.now = row_pieces _ _ _ _ _ c.row.ensures c.requires.2 in
    let named : Wrote (spelled c.row.result) c.args.out.now c.write_name-at.result c.write_name-at.new.out = wrote c.write_name-at.ensures in
    let labelled : Wrote (spelled c.row.result ++ label_field c.args.label) c.args.out.now (c.write_name-at.result + c.write_label-at.result) (back c.write_name-at.result c.write_name-at.new.out c.write_label-at.new.out) = wrote_more named (wrote c.write_label-at.ensures) in
    let plussed : Wrote (spelled c.row.result ++ label_field c.args.label ++ field_text (rows_of c.args.roles) c.args.plus 9) c.args.out.now (c.write_name-at.result + c.write_label-at.result + c.write_field-at.result) (back (c.write_name-at.result + c.write_label-at.result) (back c.write_name-at.result c.write_name-at.new.out c.write_label-at.new.out) c.write_field-at.new.out) = wrote_more labelled (wrote c.write_field-at.ensures) in
    wrote_within plussed (omega (arith, fits))

pub write_field-requires : goal.write_field-requires
write_field-requires c =
    let fits : let names = rows_of c.args.roles in length (spelled c.row.result) + length (label_field c.args.label) + length (field_text names c.args.plus 9) + length (field_text names c.args.minus 10) ≤ length c.args.out.now = row_pieces _ _ _ _ _ c.row.ensures c.requires.2 in
    let named : Wrote (spelled c.row.result) c.args.out.now c.write_name-at.result c.write_name-at.new.out = wrote c.write_name-at.ensures in
    let labelled : Wrote (spelled c.row.result ++ label_field c.args.label) c.args.out.now (c.write_name-at.result + c.write_label-at.result) (back c.write_name-at.result c.write_name-at.new.out c.write_label-at.new.out) = wrote_more named (wrote c.write_label-at.ensures) in
    let plussed : Wrote (spelled c.row.result ++ label_field c.args.label ++ field_text (rows_of c.args.roles) c.args.plus 9) c.args.out.now (c.write_name-at.result + c.write_label-at.result + c.write_field-at.result) (back (c.write_name-at.result + c.write_label-at.result) (back c.write_name-at.result c.write_name-at.new.out c.write_label-at.new.out) c.write_field-at.new.out) = wrote_more labelled (wrote c.write_field-at.ensures) in
    (c.requires.0, room (field_text (rows_of c.args.roles) c.args.minus 10) plussed (omega (arith, fits)))

pub overflow_add-result : goal.overflow_add-result
overflow_add-result c =
    let fits : let names = rows_of c.args.roles in length (spelled c.row.result) + length (label_field c.args.label) + length (field_text names c.args.plus 9) + length (field_text names c.args.minus 10) ≤ length c.args.out.now = row_pieces _ _ _ _ _ c.row.ensures c.requires.2 in
    omega (arith, fits)

pub returns : goal.returns
returns c =
    let named : Wrote (spelled c.row.result) c.args.out.now c.write_name-at.result c.write_name-at.new.out = wrote c.write_name-at.ensures in
    let labelled : Wrote (spelled c.row.result ++ label_field c.args.label) c.args.out.now (c.write_name-at.result + c.write_label-at.result) (back c.write_name-at.result c.write_name-at.new.out c.write_label-at.new.out) = wrote_more named (wrote c.write_label-at.ensures) in
    let plussed : Wrote (spelled c.row.result ++ label_field c.args.label ++ field_text (rows_of c.args.roles) c.args.plus 9) c.args.out.now (c.write_name-at.result + c.write_label-at.result + c.write_field-at.result) (back (c.write_name-at.result + c.write_label-at.result) (back c.write_name-at.result c.write_name-at.new.out c.write_label-at.new.out) c.write_field-at.new.out) = wrote_more labelled (wrote c.write_field-at.ensures) in
    let pieces = ap (λ (name : Name). spelled name ++ label_field c.args.label ++ field_text (rows_of c.args.roles) c.args.plus 9 ++ field_text (rows_of c.args.roles) c.args.minus 10) c.row.ensures in
    written (wrote_as (pieces ∙ row_text_lem _ _ _ _ _) (wrote_more plussed (wrote c.write_field.ensures)))

pub slice_bounds-write_label-start : goal.slice_bounds-write_label-start
slice_bounds-write_label-start c =
    let fits : let names = rows_of c.args.roles in length (spelled c.row.result) + length (label_field c.args.label) + length (field_text names c.args.plus 9) + length (field_text names c.args.minus 10) ≤ length c.args.out.now = row_pieces _ _ _ _ _ c.row.ensures c.requires.2 in
    let named : Wrote (spelled c.row.result) c.args.out.now c.write_name-at.result c.write_name-at.new.out = wrote c.write_name-at.ensures in
    wrote_within named (omega (arith, fits))

pub slice_bounds-write_field-start : goal.slice_bounds-write_field-start
slice_bounds-write_field-start c =
    let fits : let names = rows_of c.args.roles in length (spelled c.row.result) + length (label_field c.args.label) + length (field_text names c.args.plus 9) + length (field_text names c.args.minus 10) ≤ length c.args.out.now = row_pieces _ _ _ _ _ c.row.ensures c.requires.2 in
    let named : Wrote (spelled c.row.result) c.args.out.now c.write_name-at.result c.write_name-at.new.out = wrote c.write_name-at.ensures in
    let labelled : Wrote (spelled c.row.result ++ label_field c.args.label) c.args.out.now (c.write_name-at.result + c.write_label-at.result) (back c.write_name-at.result c.write_name-at.new.out c.write_label-at.new.out) = wrote_more named (wrote c.write_label-at.ensures) in
    wrote_within labelled (omega (arith, fits))

pub slice_bounds-write_field-start-2 : goal.slice_bounds-write_field-start-2
slice_bounds-write_field-start-2 c =
    let fits : let names = rows_of c.args.roles in length (spelled c.row.result) + length (label_field c.args.label) + length (field_text names c.args.plus 9) + length (field_text names c.args.minus 10) ≤ length c.args.out.now = row_pieces _ _ _ _ _ c.row.ensures c.requires.2 in
    let named : Wrote (spelled c.row.result) c.args.out.now c.write_name-at.result c.write_name-at.new.out = wrote c.write_name-at.ensures in
    let labelled : Wrote (spelled c.row.result ++ label_field c.args.label) c.args.out.now (c.write_name-at.result + c.write_label-at.result) (back c.write_name-at.result c.write_name-at.new.out c.write_label-at.new.out) = wrote_more named (wrote c.write_label-at.ensures) in
    let plussed : Wrote (spelled c.row.result ++ label_field c.args.label ++ field_text (rows_of c.args.roles) c.args.plus 9) c.args.out.now (c.write_name-at.result + c.write_label-at.result + c.write_field-at.result) (back (c.write_name-at.result + c.write_label-at.result) (back c.write_name-at.result c.write_name-at.new.out c.write_label-at.new.out) c.write_field-at.new.out) = wrote_more labelled (wrote c.write_field-at.ensures) in
    wrote_within plussed (omega (arith, fits))
