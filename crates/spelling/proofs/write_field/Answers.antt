-- `write_field` writes the byte past the set's text, where there is room for it.
use Rattle.std.proofs.Common.{◌<◌, length, arith}
use Rattle.tables.specs.Listed.{rows_of}
use Rattle.writing.proofs.Buffers.{wrote, written, wrote_byte}
use Rattle.spelling.specs.TypingText.{set_text}
use Rattle.spelling.specs.TypingPieces.{field_text}
use Rattle.spelling.proofs.TypingLengths.{set_most, field_length}
use Rattle.spelling.proofs.write_field.Goals as goal

pub write_set-at-requires : goal.write_set-at-requires
write_set-at-requires c =
    let fits : length (set_text (rows_of c.args.roles) c.args.set) < length c.args.out.now = omega (arith, c.requires, field_length (rows_of c.args.roles) c.args.set c.args.end) in
    (c.requires.0, omega (arith, fits))

pub bounds-out-at : goal.bounds-out-at
bounds-out-at c =
    let fits : length (set_text (rows_of c.args.roles) c.args.set) < length c.args.out.now = omega (arith, c.requires, field_length (rows_of c.args.roles) c.args.set c.args.end) in
    omega (arith, c.write_set-at.ensures.0, c.write_set-at.auto.out, fits)

pub overflow_add-result : goal.overflow_add-result
overflow_add-result c = omega (arith, c.write_set-at.ensures.0, set_most c.args.roles.words.now c.args.set c.args.roles.count)

pub returns : goal.returns
unfolding field_text
returns c =
    let fits : length (set_text (rows_of c.args.roles) c.args.set) < length c.args.out.now = omega (arith, c.requires, field_length (rows_of c.args.roles) c.args.set c.args.end) in
    written (wrote_byte _ (wrote c.write_set-at.ensures) (omega (arith, c.write_set-at.ensures.0, fits)))
