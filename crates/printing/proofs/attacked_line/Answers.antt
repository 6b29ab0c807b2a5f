-- `attacked_line` puts one field past another.
use Rattle.std.proofs.Common.{arith}
use Rattle.showing.specs.Fields.{fields_on}
use Rattle.showing.specs.Steps.{line_on, name_most, goes_within}
use Rattle.printing.proofs.attacked_line.Goals as goal

pub name_field-third-requires : goal.name_field-third-requires
name_field-third-requires c = omega (arith, c.requires, name_most c.args.name, c.begin_line-second.ensures.few)

pub number_field-last-requires : goal.number_field-last-requires
number_field-last-requires c = omega (arith, c.requires, name_most c.args.name, c.begin_line-second.ensures.few, c.name_field-third.ensures.few)

pub end_line-requires : goal.end_line-requires
end_line-requires c = omega (arith, c.requires, name_most c.args.name, c.begin_line-second.ensures.few, c.name_field-third.ensures.few, c.number_field-last.ensures.few)

pub returns : goal.returns
unfolding fields_on
returns c = line_on (line_on (line_on c.begin_line-second.ensures (goes_within (name_most c.args.name) c.name_field-third.ensures) (omega (arith, c.requires))) c.number_field-last.ensures (omega (arith, c.requires))) c.end_line.ensures (omega (arith, c.requires))
