-- `clear` tests the eight bytes, where they are there.
use Rattle.std.proofs.Common.{rules, sym, ◌∙◌}
use Rattle.text.specs.Eights.{unlike, clear_short, clear_here, every-eight}
use Rattle.text.proofs.clear.Goals as goal

pub returns-then-s-at-lt8 : goal.returns-then-s-at-lt8
returns-then-s-at-lt8 c = sym (clear_short c.args.mark c.args.s.now c.args.at c.if-s-at-lt8.true)

pub returns : goal.returns
unfolding unlike
returns c = let mark = c.args.mark in let s = c.args.s.now in let at = c.args.at in sym (clear_here mark s at c.if-s-at-lt8.false ∙ every-eight (unlike mark) s at (search rules))
