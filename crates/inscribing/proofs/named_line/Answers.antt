-- `named_line` puts the word, and the name past it.
use Rattle.std.proofs.Common.{◌+◌, ◌≤◌, length, arith}
use Rattle.writing.specs.Written.{spelled}
use Rattle.showing.specs.Fields.{field}
use Rattle.inscribing.specs.Adding.{both_room, adds_both}
use Rattle.inscribing.proofs.named_line.Goals as goal

pub write_piece-from-requires : goal.write_piece-from-requires
write_piece-from-requires c = let fits : c.args.at + length c.args.word.now + length (field (spelled c.args.name)) ≤ length c.args.out.now = both_room c.args.at c.args.word.now (field (spelled c.args.name)) c.requires in omega arith

pub name_field-requires : goal.name_field-requires
name_field-requires c = let fits : c.args.at + length c.args.word.now + length (field (spelled c.args.name)) ≤ length c.args.out.now = both_room c.args.at c.args.word.now (field (spelled c.args.name)) c.requires in omega arith

pub returns : goal.returns
returns c = adds_both c.write_piece-from.ensures c.name_field.ensures
