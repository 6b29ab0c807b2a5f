-- `word_at` packs the bytes from a place on: none, eight of them, the last of eight, or the rest.
use Rattle.std.proofs.Common.{ℕ, ◌+◌, ◌-◌, ◌*◌, ◌/◌, ◌^◌, ◌≤◌, length, drop, drop_of_length-le, length-drop, take_all, sym, ◌∙◌, ap, arith}
use Rattle.tables.specs.Names.{value}
use Rattle.tables.specs.NameLaws.{value_last}
use Rattle.text.specs.PieceLaws.{part_rest}
use Rattle.tables.proofs.word_at.Goals as goal

pub returns-then-end-at : goal.returns-then-end-at
unfolding value
returns-then-end-at c = rw (drop_of_length-le _ c.if-end-at.true)

pub returns-then-end-ge8 : goal.returns-then-end-ge8
returns-then-end-ge8 c = ap (λ (n : ℕ). n / 2 ^ (8 * (c.args.at + 8 - length c.args.field.now))) c.eight-then-end-ge8.ensures ∙ value_last c.args.field.now c.args.at (λ i. omega (arith, c.type_inv.field i)) c.if-end-ge8.true c.if-at-end.false c.if-end-at.false

pub returns : goal.returns
returns c = let few : length (drop c.args.at c.args.field.now) ≤ 8 = omega (arith, length-drop c.args.at c.args.field.now) in c.word.ensures ∙ ap value (part_rest c.args.at c.args.field.now ∙ sym (take_all 8 _ few))
