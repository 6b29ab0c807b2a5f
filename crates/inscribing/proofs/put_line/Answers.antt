-- `put_line` puts the LF past the line.
use Rattle.std.proofs.Common.{◌+◌, ◌≤◌, length, ap, arith}
use Rattle.text.specs.Forms.{bytes}
use Rattle.inscribing.specs.LineLaws.{line_in, line_in_lem}
use Rattle.inscribing.specs.Adding.{both_room, adds_as, adds_both, adds_all}
use Rattle.inscribing.proofs.put_line.Goals as goal

pub write_entry-end-requires : goal.write_entry-end-requires
write_entry-end-requires c = let fits : 0 + length (line_in c.args.ledger.now c.args.c c.args.entry) + 1 ≤ length c.args.out.now = both_room 0 (line_in c.args.ledger.now c.args.c c.args.entry) (bytes "\n") {size = length c.args.out.now} (omega (arith, c.requires.2, ap length (line_in_lem c.args.ledger.now c.args.c c.args.entry))) in (c.requires.0, c.requires.1, omega arith)

pub end_line-requires : goal.end_line-requires
end_line-requires c = let fits : 0 + length (line_in c.args.ledger.now c.args.c c.args.entry) + 1 ≤ length c.args.out.now = both_room 0 (line_in c.args.ledger.now c.args.c c.args.entry) (bytes "\n") {size = length c.args.out.now} (omega (arith, c.requires.2, ap length (line_in_lem c.args.ledger.now c.args.c c.args.entry))) in omega arith

pub returns : goal.returns
returns c = adds_all (adds_as (line_in_lem _ _ _) (adds_both c.write_entry-end.ensures c.end_line.ensures)) c.requires.2
