-- `word` packs from the last byte to the first: the number is that of the bytes passed.
use Rattle.std.proofs.Common.{◌-◌, rules, lit≤, get_or, ◌≡◌, sym, le_refl, arith}
use Rattle.std.proofs.Math.Nat.{one-le-pow}
use Rattle.tables.specs.NameLaws.{value_end, word_bound, word_fits, word_next}
use Rattle.tables.proofs.word.Goals as goal

pub loop-i-init : goal.loop-i-init
loop-i-init c = (search rules, one-le-pow _ 256 (lit≤ tt), sym (value_end c.args.part.now _ (le_refl _)))

pub overflow_mul-n : goal.overflow_mul-n
overflow_mul-n c = omega (arith, word_bound c.loop-i.n c.loop-i.i 0 c.loop-i-test.true (search rules) c.loop-i.invariant.1 (lit≤ tt), word_fits (c.loop-i.i - 1))

pub overflow_add-n : goal.overflow_add-n
overflow_add-n c = omega (arith, word_bound c.loop-i.n c.loop-i.i (get_or c.args.part.now (c.loop-i.i - 1) 0) c.loop-i-test.true (search rules) c.loop-i.invariant.1 (omega (arith, c.type_inv.part (c.loop-i.i - 1))), word_fits (c.loop-i.i - 1))

pub loop-i-preserved : goal.loop-i-preserved
loop-i-preserved c = (search rules, word_bound c.loop-i.n c.loop-i.i _ c.loop-i-test.true (search rules) c.loop-i.invariant.1 (omega (arith, c.type_inv.part (c.loop-i.i - 1))), word_next _ _ _ c.loop-i-test.true (search rules) c.loop-i.invariant.2)

pub returns : goal.returns
returns c = let none : c.loop-i.i ≡ 0 = omega arith in rw none at c.loop-i.invariant.2
