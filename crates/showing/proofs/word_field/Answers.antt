-- `word_field` puts a tab, and the word past it.
use Rattle.std.proofs.Common.{arith}
use Rattle.showing.specs.Steps.{past-tab, field_room, goes_field}
use Rattle.showing.proofs.word_field.Goals as goal

pub slice_bounds-write_bytes-count : goal.slice_bounds-write_bytes-count
slice_bounds-write_bytes-count c = past-tab c.args.out.now c.args.at (omega (arith, c.requires.1))

pub write_bytes-requires : goal.write_bytes-requires
write_bytes-requires c = field_room c.args.word.now c.args.out.now c.args.at 20 c.requires.0 c.requires.1

pub returns : goal.returns
returns c = goes_field c.args.word.now c.requires.0 c.write_bytes.ensures
