-- `user_line` puts the word and the name, and the clearance past them.
use Rattle.std.proofs.Common.{◌+◌, ◌≤◌, length, ◌++◌, arith}
use Rattle.text.specs.Forms.{bytes}
use Rattle.writing.specs.Written.{spelled}
use Rattle.showing.specs.Fields.{field}
use Rattle.spelling.specs.TypingText.{label_text}
use Rattle.inscribing.specs.LineText.{line_text}
use Rattle.inscribing.specs.LineLaws.{label_length}
use Rattle.inscribing.specs.Adding.{both_room, adds_as, adds_both}
use Rattle.inscribing.proofs.user_line.Goals as goal

pub named_line-from-requires : goal.named_line-from-requires
unfolding line_text
named_line-from-requires c = let fits : c.args.at + length (bytes "user" ++ field (spelled c.args.name)) + 2 ≤ length c.args.out.now = omega (arith, label_length c.args.clearance, both_room c.args.at (bytes "user" ++ field (spelled c.args.name)) (field (label_text c.args.clearance)) c.requires) in omega arith

pub write_piece-requires : goal.write_piece-requires
unfolding line_text
write_piece-requires c = let fits : c.args.at + length (bytes "user" ++ field (spelled c.args.name)) + 2 ≤ length c.args.out.now = omega (arith, label_length c.args.clearance, both_room c.args.at (bytes "user" ++ field (spelled c.args.name)) (field (label_text c.args.clearance)) c.requires) in omega arith

pub returns-then-clearance : goal.returns-then-clearance
unfolding line_text field label_text
returns-then-clearance c = adds_as (rw c.if-clearance.true) (adds_both c.named_line-from.ensures c.write_piece.ensures)

pub write_piece-requires-2 : goal.write_piece-requires-2
unfolding line_text
write_piece-requires-2 c = let fits : c.args.at + length (bytes "user" ++ field (spelled c.args.name)) + 2 ≤ length c.args.out.now = omega (arith, label_length c.args.clearance, both_room c.args.at (bytes "user" ++ field (spelled c.args.name)) (field (label_text c.args.clearance)) c.requires) in omega arith

pub returns : goal.returns
unfolding line_text field label_text
returns c = adds_as (rw c.if-clearance.false) (adds_both c.named_line-from.ensures c.write_piece-2.ensures)
