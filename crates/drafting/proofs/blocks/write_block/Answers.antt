-- `write_block` goes through the elements; the invariant: the lines of the elements passed are added.
use Rattle.std.proofs.Common.{◌+◌, ◌≤◌, length, refl, arith}
use Rattle.reading.specs.Ledger.{ledger_says}
use Rattle.drafting.specs.PolicyText.{element, first_of}
use Rattle.inscribing.specs.LineLaws.{lines_in}
use Rattle.drafting.specs.BlockLaws.{first_start, first_grows, first_all}
use Rattle.inscribing.specs.Adding.{adds_none, adds_as, room_as, next_room, adds_next}
use Rattle.drafting.proofs.blocks.write_block.Goals as goal

pub loop-place-init : goal.loop-place-init
loop-place-init c = (refl, adds_as (first_start _ _ _) adds_none)

pub write_element-to-requires : goal.write_element-to-requires
write_element-to-requires c = let piece-fits : c.args.at + length (lines_in c.args.ledger.now c.args.c (first_of (ledger_says c.args.ledger.now c.args.c) c.args.block c.loop-place.place)) + length (lines_in c.args.ledger.now c.args.c (element (ledger_says c.args.ledger.now c.args.c) c.args.block c.loop-place.place)) ≤ length c.args.out.now = next_room (first_grows c.args.ledger.now c.args.c c.args.block) c.loop-place.place c.block_size-size.result c.args.at c.loop-place-test.true
    (room_as _ (first_all _ _ _ (c.block_size-size.ensures _) (omega arith) (omega arith)) c.requires.2) in (c.requires.0, c.requires.1, omega (arith, c.loop-place-test.true, c.block_size-size.ensures c.args.ledger.now), omega (arith, c.loop-place.invariant.0, c.loop-place.invariant.1.few, piece-fits))

pub loop-place-preserved : goal.loop-place-preserved
loop-place-preserved c = (omega (arith, c.loop-place.invariant.0), adds_next (first_grows _ _ _) c.loop-place.place c.loop-place.invariant.1 c.write_element-to.ensures)

pub returns : goal.returns
returns c = adds_as (first_all _ _ _ (c.block_size-size.ensures _) c.loop-place.auto.place-end c.loop-place-test.false) c.loop-place.invariant.1
