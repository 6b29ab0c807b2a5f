-- `number_fields` puts one field past another; the invariant: the fields of the numbers before the place are put.
use Rattle.std.proofs.Common.{refl, arith}
use Rattle.showing.specs.Steps.{fields_none, fields-next, fields_all}
use Rattle.showing.proofs.number_fields.Goals as goal

pub loop-number-init : goal.loop-number-init
loop-number-init c = (refl, fields_none)

pub number_field-to-requires : goal.number_field-to-requires
number_field-to-requires c = omega (arith, c.requires, c.loop-number.invariant.0, c.loop-number.invariant.1.few)

pub loop-number-preserved : goal.loop-number-preserved
loop-number-preserved c = (omega (arith, c.loop-number.invariant.0), fields-next _ c.loop-number-test.true c.loop-number.invariant.1 c.number_field-to.ensures)

pub returns : goal.returns
returns c = fields_all _ (omega arith) c.loop-number.invariant.1
