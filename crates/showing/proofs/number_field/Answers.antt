-- `number_field` puts a tab, and the digits past it.
use Rattle.std.proofs.Common.{arith}
use Rattle.writing.specs.Written.{decimal}
use Rattle.writing.specs.Spelling.{decimal_length}
use Rattle.showing.specs.Steps.{past-tab, field_room, goes_field}
use Rattle.showing.proofs.number_field.Goals as goal

pub slice_bounds-write_decimal-count : goal.slice_bounds-write_decimal-count
slice_bounds-write_decimal-count c = past-tab c.args.out.now c.args.at (omega (arith, c.requires))

pub write_decimal-requires : goal.write_decimal-requires
write_decimal-requires c = field_room (decimal c.args.number) c.args.out.now c.args.at 20 (decimal_length c.args.number) c.requires

pub overflow_add-result : goal.overflow_add-result
overflow_add-result c = omega (arith, decimal_length c.args.number, c.write_decimal.ensures.0, c.requires)

pub returns : goal.returns
returns c = goes_field (decimal c.args.number) (decimal_length c.args.number) c.write_decimal.ensures
