-- `set_field` puts a tab, and the set past it.
use Rattle.std.proofs.Common.{◌+◌, ◌≤◌, length, arith}
use Rattle.tables.specs.Listed.{rows_of}
use Rattle.spelling.specs.TypingText.{set_text}
use Rattle.showing.specs.Steps.{past-tab, field_room, field_size, goes_whole}
use Rattle.inscribing.proofs.set_field.Goals as goal

pub bounds-out-at : goal.bounds-out-at
bounds-out-at c = let fits : c.args.at + (length (set_text (rows_of c.args.roles) c.args.set) + 1) ≤ length c.args.out.now = omega (arith, c.requires, field_size (set_text (rows_of c.args.roles) c.args.set)) in omega arith

pub slice_bounds-write_set-count : goal.slice_bounds-write_set-count
slice_bounds-write_set-count c = let fits : c.args.at + (length (set_text (rows_of c.args.roles) c.args.set) + 1) ≤ length c.args.out.now = omega (arith, c.requires, field_size (set_text (rows_of c.args.roles) c.args.set)) in past-tab c.args.out.now c.args.at (omega arith)

pub write_set-requires : goal.write_set-requires
write_set-requires c = let fits : c.args.at + (length (set_text (rows_of c.args.roles) c.args.set) + 1) ≤ length c.args.out.now = omega (arith, c.requires, field_size (set_text (rows_of c.args.roles) c.args.set)) in (c.requires.0, field_room (set_text (rows_of c.args.roles) c.args.set) c.args.out.now c.args.at (length (set_text (rows_of c.args.roles) c.args.set)) (omega arith) fits)

pub overflow_add-result : goal.overflow_add-result
overflow_add-result c = let fits : c.args.at + (length (set_text (rows_of c.args.roles) c.args.set) + 1) ≤ length c.args.out.now = omega (arith, c.requires, field_size (set_text (rows_of c.args.roles) c.args.set)) in omega (arith, c.write_set.ensures.0)

pub returns : goal.returns
returns c = goes_whole _ c.write_set.ensures

pub slice_bounds-write_set-start : goal.slice_bounds-write_set-start
slice_bounds-write_set-start c = slice_bounds-write_set-count c
