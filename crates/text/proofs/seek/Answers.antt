-- `seek` passes over eight bytes at a time, as long as none of them is the mark ; what is left is looked at one by one.
use Rattle.std.proofs.Common.{rules, sym, ◌∙◌, arith}
use Rattle.text.specs.Eights.{clear_passing}
use Rattle.text.proofs.seek.Goals as goal

pub loop-at-init : goal.loop-at-init
loop-at-init c = (search rules, λ place sought. sought)

pub overflow_add-at : goal.overflow_add-at
overflow_add-at c = omega (arith, (clear_passing c.args.mark c.args.s.now c.loop-at.at (sym c.clear.ensures ∙ c.loop-at-test.true)).fits)

pub loop-at-smaller : goal.loop-at-smaller
loop-at-smaller c = omega (arith, (clear_passing c.args.mark c.args.s.now c.loop-at.at (sym c.clear.ensures ∙ c.loop-at-test.true)).fits)

pub loop-at-preserved : goal.loop-at-preserved
loop-at-preserved c = let passing = clear_passing c.args.mark c.args.s.now c.loop-at.at (sym c.clear.ensures ∙ c.loop-at-test.true) in (passing.fits, λ place sought. c.loop-at.invariant.1 place (passing.back place sought))

pub returns : goal.returns
returns c = c.loop-at.invariant.1 _ c.find.ensures
