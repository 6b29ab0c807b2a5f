-- `pair_line` puts the word and the first name, and the second name past them.
use Rattle.std.proofs.Common.{◌+◌, ◌≤◌, length, ◌++◌, arith}
use Rattle.writing.specs.Written.{spelled}
use Rattle.showing.specs.Fields.{field}
use Rattle.inscribing.specs.Adding.{both_room, adds_both}
use Rattle.inscribing.proofs.pair_line.Goals as goal

pub named_line-from-requires : goal.named_line-from-requires
named_line-from-requires c = let fits : c.args.at + length (c.args.word.now ++ field (spelled c.args.first)) + length (field (spelled c.args.second)) ≤ length c.args.out.now = both_room c.args.at (c.args.word.now ++ field (spelled c.args.first)) (field (spelled c.args.second)) c.requires in omega arith

pub name_field-requires : goal.name_field-requires
name_field-requires c = let fits : c.args.at + length (c.args.word.now ++ field (spelled c.args.first)) + length (field (spelled c.args.second)) ≤ length c.args.out.now = both_room c.args.at (c.args.word.now ++ field (spelled c.args.first)) (field (spelled c.args.second)) c.requires in omega arith

pub returns : goal.returns
returns c = adds_both c.named_line-from.ensures c.name_field.ensures
