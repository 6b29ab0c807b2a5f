-- `number` goes through the digits: the number written is what the passed digits write, followed by what is left.
use Rattle.std.proofs.Common.{Some, get_or, rules, lit<, sym, ap, ◌∙◌, refl, arith}
use Rattle.text.specs.Forms.{between}
use Rattle.text.specs.FormLaws.{number_short, number_long, number_zero, number_bad, number_here, number_missing, every_bad, every_good, every_end, decimal-next, decimal_end, digits_next, digits_few, in_range}
use Rattle.text.proofs.number.Goals as goal

pub returns-then-field-lt1 : goal.returns-then-field-lt1
returns-then-field-lt1 c = number_missing _ (number_short _ c.if-field-lt1.true)

pub returns-then-field-gt3 : goal.returns-then-field-gt3
returns-then-field-gt3 c = number_missing _ (number_long _ c.if-field-gt3.true)

pub returns-then-field-eq48 : goal.returns-then-field-eq48
returns-then-field-eq48 c = number_missing _ (number_zero c.args.field.now c.if-field-eq48.true)

pub loop-digit-init : goal.loop-digit-init
loop-digit-init c = (lit< tt, refl, refl)

pub returns-then-not-is_ascii_digit : goal.returns-then-not-is_ascii_digit
unfolding between
returns-then-not-is_ascii_digit c = number_missing _ (number_bad _ (c.loop-digit.invariant.1 ∙ every_bad (between 48 57) _ _ 0 c.loop-digit-test.true (sym c.is_ascii_digit.ensures.value ∙ c.if-not-is_ascii_digit.true)))

pub loop-digit-preserved : goal.loop-digit-preserved
unfolding between
loop-digit-preserved c =
    let range = in_range 48 57 (get_or c.args.field.now c.loop-digit.digit-index 0) (sym c.is_ascii_digit.ensures.value ∙ c.if-not-is_ascii_digit.false) in
    (digits_next c.loop-digit.n c.loop-digit.digit-index _ c.loop-digit.invariant.0 (omega (arith, range)), c.loop-digit.invariant.1 ∙ every_good (between 48 57) _ _ 0 c.loop-digit-test.true (sym c.is_ascii_digit.ensures.value ∙ c.if-not-is_ascii_digit.false), c.loop-digit.invariant.2 ∙ decimal-next _ _ _ c.loop-digit-test.true)

pub overflow_mul-n : goal.overflow_mul-n
overflow_mul-n c = omega (arith, digits_few c.loop-digit.digit-index (search rules))

pub overflow_add-n : goal.overflow_add-n
overflow_add-n c = omega (arith, digits_few c.loop-digit.digit-index (search rules))

pub returns : goal.returns
returns c = ap Some (sym (c.loop-digit.invariant.2 ∙ decimal_end _ _ _ c.loop-digit-test.false)) ∙ number_here _ c.if-field-lt1.false c.if-field-gt3.false c.if-field-eq48.false (c.loop-digit.invariant.1 ∙ every_end (between 48 57) _ _ c.loop-digit-test.false)
