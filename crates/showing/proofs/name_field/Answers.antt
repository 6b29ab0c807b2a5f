-- `name_field` puts a tab, and the name past it.
use Rattle.std.proofs.Common.{◌+◌, ◌≤◌, length, arith}
use Rattle.writing.specs.Written.{spelled}
use Rattle.showing.specs.Steps.{past-tab, field_room, field_size, goes_whole}
use Rattle.showing.proofs.name_field.Goals as goal

pub bounds-out-at : goal.bounds-out-at
bounds-out-at c = let fits : c.args.at + (length (spelled c.args.name) + 1) ≤ length c.args.out.now = omega (arith, c.requires, field_size (spelled c.args.name)) in omega arith

pub slice_bounds-write_name-count : goal.slice_bounds-write_name-count
slice_bounds-write_name-count c = let fits : c.args.at + (length (spelled c.args.name) + 1) ≤ length c.args.out.now = omega (arith, c.requires, field_size (spelled c.args.name)) in past-tab c.args.out.now c.args.at (omega arith)

pub write_name-requires : goal.write_name-requires
write_name-requires c = let fits : c.args.at + (length (spelled c.args.name) + 1) ≤ length c.args.out.now = omega (arith, c.requires, field_size (spelled c.args.name)) in field_room (spelled c.args.name) c.args.out.now c.args.at (length (spelled c.args.name)) (omega arith) fits

pub overflow_add-result : goal.overflow_add-result
overflow_add-result c = let fits : c.args.at + (length (spelled c.args.name) + 1) ≤ length c.args.out.now = omega (arith, c.requires, field_size (spelled c.args.name)) in omega (arith, c.write_name.ensures.0)

pub returns : goal.returns
returns c = goes_whole _ c.write_name.ensures

pub slice_bounds-write_name-start : goal.slice_bounds-write_name-start
slice_bounds-write_name-start c = slice_bounds-write_name-count c
