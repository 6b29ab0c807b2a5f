-- `goal_line` puts the word, and the set past it.
use Rattle.std.proofs.Common.{◌+◌, ◌≤◌, length, arith}
use Rattle.text.specs.Forms.{bytes}
use Rattle.tables.specs.Listed.{rows_of}
use Rattle.showing.specs.Fields.{field}
use Rattle.spelling.specs.TypingText.{set_text}
use Rattle.inscribing.specs.LineText.{line_text}
use Rattle.inscribing.specs.Adding.{both_room, adds_both}
use Rattle.inscribing.proofs.goal_line.Goals as goal

pub write_piece-from-requires : goal.write_piece-from-requires
unfolding line_text
write_piece-from-requires c = let fits : c.args.at + 4 + length (field (set_text (rows_of c.args.roles) c.args.goal)) ≤ length c.args.out.now = both_room c.args.at (bytes "goal") (field (set_text (rows_of c.args.roles) c.args.goal)) c.requires.1 in omega arith

pub set_field-requires : goal.set_field-requires
unfolding line_text
set_field-requires c = let fits : c.args.at + 4 + length (field (set_text (rows_of c.args.roles) c.args.goal)) ≤ length c.args.out.now = both_room c.args.at (bytes "goal") (field (set_text (rows_of c.args.roles) c.args.goal)) c.requires.1 in (c.requires.0, omega arith)

pub returns : goal.returns
unfolding line_text
returns c = adds_both c.write_piece-from.ensures c.set_field.ensures
