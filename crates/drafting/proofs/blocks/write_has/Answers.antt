-- `write_has` puts a line or none.
use Rattle.std.proofs.Common.{ap, ◌∙◌}
use Rattle.inscribing.specs.LineLaws.{lines_in, lines_none}
use Rattle.drafting.specs.BlockLaws.{held_entry_lem, held_none}
use Rattle.inscribing.specs.Adding.{adds_none, adds_as, room_as}
use Rattle.drafting.proofs.blocks.write_has.Goals as goal

pub returns-then-not-holds : goal.returns-then-not-holds
returns-then-not-holds c = adds_as (lines_none _ _ ∙ ap (lines_in _ _) (held_none _ _ c.if-not-holds.true)) adds_none

pub write_line-requires : goal.write_line-requires
write_line-requires c = (c.requires.0, c.requires.1, room_as _ (ap (lines_in _ _) (held_entry_lem _ _ c.if-not-holds.false)) c.requires.2)

pub returns : goal.returns
returns c = adds_as (ap (lines_in _ _) (held_entry_lem _ _ c.if-not-holds.false)) c.write_line.ensures
