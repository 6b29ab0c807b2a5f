-- `assign_line` puts the word and the first name, then the two sets, then the last name, each past the one before.
use Rattle.std.proofs.Common.{◌+◌, ◌≤◌, length, ◌++◌, arith}
use Rattle.text.specs.Forms.{bytes}
use Rattle.tables.specs.Listed.{rows_of}
use Rattle.writing.specs.Written.{spelled}
use Rattle.showing.specs.Fields.{field}
use Rattle.spelling.specs.TypingText.{set_text}
use Rattle.inscribing.specs.LineLaws.{assign_text, assign_room}
use Rattle.inscribing.specs.Adding.{adds_as, adds_both}
use Rattle.inscribing.proofs.assign_line.Goals as goal

pub named_line-from-requires : goal.named_line-from-requires
named_line-from-requires c = let fits : c.args.at + length (bytes "assign" ++ field (spelled c.at-admin.result)) + length (field (set_text (rows_of c.args.roles) c.args.rule.positive)) + length (field (set_text (rows_of c.args.roles) c.args.rule.negative)) + length (field (spelled c.at-target.result)) ≤ length c.args.out.now = assign_room (rows_of c.args.roles) c.args.rule c.at-admin.ensures c.at-target.ensures c.args.at c.requires.1 in omega arith

pub set_field-second-requires : goal.set_field-second-requires
set_field-second-requires c = let fits : c.args.at + length (bytes "assign" ++ field (spelled c.at-admin.result)) + length (field (set_text (rows_of c.args.roles) c.args.rule.positive)) + length (field (set_text (rows_of c.args.roles) c.args.rule.negative)) + length (field (spelled c.at-target.result)) ≤ length c.args.out.now = assign_room (rows_of c.args.roles) c.args.rule c.at-admin.ensures c.at-target.ensures c.args.at c.requires.1 in (c.requires.0, omega arith)

pub set_field-third-requires : goal.set_field-third-requires
set_field-third-requires c = let fits : c.args.at + length (bytes "assign" ++ field (spelled c.at-admin.result)) + length (field (set_text (rows_of c.args.roles) c.args.rule.positive)) + length (field (set_text (rows_of c.args.roles) c.args.rule.negative)) + length (field (spelled c.at-target.result)) ≤ length c.args.out.now = assign_room (rows_of c.args.roles) c.args.rule c.at-admin.ensures c.at-target.ensures c.args.at c.requires.1 in (c.requires.0, omega arith)

pub name_field-requires : goal.name_field-requires
name_field-requires c = let fits : c.args.at + length (bytes "assign" ++ field (spelled c.at-admin.result)) + length (field (set_text (rows_of c.args.roles) c.args.rule.positive)) + length (field (set_text (rows_of c.args.roles) c.args.rule.negative)) + length (field (spelled c.at-target.result)) ≤ length c.args.out.now = assign_room (rows_of c.args.roles) c.args.rule c.at-admin.ensures c.at-target.ensures c.args.at c.requires.1 in omega arith

pub returns : goal.returns
returns c = adds_as (assign_text _ _ c.at-admin.ensures c.at-target.ensures) (adds_both (adds_both (adds_both c.named_line-from.ensures c.set_field-second.ensures) c.set_field-third.ensures) c.name_field.ensures)
