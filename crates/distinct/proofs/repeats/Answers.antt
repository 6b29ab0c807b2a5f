-- `repeats` goes from block to block: the names before a block do not matter.
use Rattle.std.proofs.Common.{ℕ, List, take, ◌-◌, suc, ◌+◌, ◌≤◌, length, drop, length-drop, Option, Some, None, sym, ◌∙◌, arith}
use Rattle.text.specs.PieceLaws.{part_rest}
use Rattle.distinct.specs.Blocks.{from_left, from_inside, from_past}
use Rattle.distinct.specs.Answers.{Left, Parted}
use Rattle.distinct.proofs.repeats.Goals as goal

-- the block is that of what is left of the field
parted : (field : List ℕ) (base : ℕ) (answer : Option ℕ) → Parted (take (length field - base) (drop base field)) answer → Parted (drop base field) answer
parted field base answer told = rw part_rest at told

within : (field : List ℕ) (base : ℕ) {limit : ℕ} → Left (drop base field) limit → base ≤ length field → base + limit ≤ suc (length field)
within field base told low = omega (arith, told.within, length-drop base field)

pub loop-base-init : goal.loop-base-init
loop-base-init c = (omega arith, sym (from_inside _ 0 (omega arith)))

pub returns-in_default : goal.returns-in_default
returns-in_default c = sym (c.loop-base.invariant.1 ∙ from_inside _ _ (omega arith) ∙ parted c.args.field.now c.loop-base.base None c.in_default.ensures)

pub loop-base-preserved : goal.loop-base-preserved
loop-base-preserved c = (omega (arith, within _ _ (parted c.args.field.now c.loop-base.base (Some c.in-Some.limit) c.in-Some.ensures) c.loop-base-test.true), c.loop-base.invariant.1 ∙ from_inside _ _ (omega arith) ∙ (parted c.args.field.now c.loop-base.base (Some c.in-Some.limit) c.in-Some.ensures).once ∙ from_left _ _ _ (omega arith))

pub returns : goal.returns
returns c = sym (c.loop-base.invariant.1 ∙ from_past _ _ c.loop-base-test.false)
