-- `is_name` goes through the bytes by eights: the test of all is the test of what is left, and the last eight decide it.
use Rattle.std.proofs.Common.{rules, refl, sym, ◌∙◌}
use Rattle.text.specs.Eights.{eight_bad, eight_good, eight_last}
use Rattle.text.specs.Forms.{name_byte}
use Rattle.text.specs.FormLaws.{every_all, name_short, name_long, name_fits}
use Rattle.text.proofs.is_name.Goals as goal

pub returns-then-end-lt1 : goal.returns-then-end-lt1
returns-then-end-lt1 c = sym (name_short _ c.if-end-lt1.true)

pub returns-then-end-gt32 : goal.returns-then-end-gt32
returns-then-end-gt32 c = sym (name_long _ c.if-end-gt32.true)

pub returns-then-end-lt8 : goal.returns-then-end-lt8
returns-then-end-lt8 c = c.few_in_name.ensures ∙ sym (every_all name_byte c.args.field.now) ∙ sym (name_fits _ c.if-end-lt1.false c.if-end-gt32.false)

pub loop-at-init : goal.loop-at-init
loop-at-init c = (search rules, refl)

pub returns-then-not-eight_in_name : goal.returns-then-not-eight_in_name
returns-then-not-eight_in_name c = sym (name_fits _ c.if-end-lt1.false c.if-end-gt32.false ∙ c.loop-at.invariant.1 ∙ eight_bad name_byte c.args.field.now c.loop-at.at (sym c.eight_in_name.ensures ∙ c.if-not-eight_in_name.true))

pub loop-at-preserved : goal.loop-at-preserved
loop-at-preserved c = (search rules, c.loop-at.invariant.1 ∙ eight_good name_byte c.args.field.now c.loop-at.at (sym c.eight_in_name.ensures ∙ c.if-not-eight_in_name.false))

pub returns : goal.returns
returns c = c.eight_in_name-2.ensures ∙ sym (name_fits _ c.if-end-lt1.false c.if-end-gt32.false ∙ eight_last name_byte _ c.loop-at.at _ (search rules) c.loop-at-test.false c.loop-at.invariant.1)
