-- `write_name` puts each word's bytes past those of the words before it.
use Rattle.std.proofs.Common.{arith}
use Rattle.writing.specs.Written.{letters, spelled}
use Rattle.writing.proofs.Buffers.{wrote, written, wrote_more, wrote_within, room}
use Rattle.writing.specs.Spelling.{spelled-parts, spelled_length}
use Rattle.writing.proofs.names.write_name.Goals as goal

pub write_word-second-requires : goal.write_word-second-requires
write_word-second-requires c = omega (arith, spelled-parts c.args.name, c.requires)

pub write_word-requires : goal.write_word-requires
write_word-requires c = room (letters 8 c.args.name.second) (wrote c.write_word-second.ensures) (omega (arith, spelled-parts c.args.name, c.requires))

pub overflow_add-third : goal.overflow_add-third
overflow_add-third c = omega (arith, spelled-parts c.args.name, spelled_length c.args.name)

pub write_word-requires-2 : goal.write_word-requires-2
write_word-requires-2 c = room (letters 8 c.args.name.third) (wrote_more (wrote c.write_word-second.ensures) (wrote c.write_word.ensures)) (omega (arith, spelled-parts c.args.name, c.requires))

pub overflow_add-fourth : goal.overflow_add-fourth
overflow_add-fourth c = omega (arith, spelled-parts c.args.name, spelled_length c.args.name)

pub write_word-requires-3 : goal.write_word-requires-3
write_word-requires-3 c = room (letters 8 c.args.name.fourth) (wrote_more (wrote_more (wrote c.write_word-second.ensures) (wrote c.write_word.ensures)) (wrote c.write_word-2.ensures)) (omega (arith, spelled-parts c.args.name, c.requires))

pub overflow_add-result : goal.overflow_add-result
overflow_add-result c = omega (arith, spelled-parts c.args.name, spelled_length c.args.name)

pub returns : goal.returns
unfolding spelled
returns c = written (wrote_more (wrote_more (wrote_more (wrote c.write_word-second.ensures) (wrote c.write_word.ensures)) (wrote c.write_word-2.ensures)) (wrote c.write_word-3.ensures))

pub slice_bounds-write_word-start : goal.slice_bounds-write_word-start
slice_bounds-write_word-start c = wrote_within (wrote c.write_word-second.ensures) (omega (arith, spelled-parts c.args.name, c.requires))

pub slice_bounds-write_word-start-2 : goal.slice_bounds-write_word-start-2
slice_bounds-write_word-start-2 c = wrote_within (wrote_more (wrote c.write_word-second.ensures) (wrote c.write_word.ensures)) (omega (arith, spelled-parts c.args.name, c.requires))

pub slice_bounds-write_word-start-3 : goal.slice_bounds-write_word-start-3
slice_bounds-write_word-start-3 c = wrote_within (wrote_more (wrote_more (wrote c.write_word-second.ensures) (wrote c.write_word.ensures)) (wrote c.write_word-2.ensures)) (omega (arith, spelled-parts c.args.name, c.requires))

pub slice_bounds-write_word-count : goal.slice_bounds-write_word-count
slice_bounds-write_word-count c = slice_bounds-write_word-start c

pub slice_bounds-write_word-count-2 : goal.slice_bounds-write_word-count-2
slice_bounds-write_word-count-2 c = slice_bounds-write_word-start-2 c

pub slice_bounds-write_word-count-3 : goal.slice_bounds-write_word-count-3
slice_bounds-write_word-count-3 c = slice_bounds-write_word-start-3 c
