-- `write_decimal` puts the digits that the kit makes, which are the fewest.
use Rattle.std.proofs.Common.{rules, length, ◌∙◌, ap, arith}
use Rattle.writing.specs.Spelling.{decimal_digits}
use Rattle.writing.proofs.numbers.write_decimal.Goals as goal

pub write_bytes-requires : goal.write_bytes-requires
write_bytes-requires c = omega (arith, ap length (c.decimal-count.ensures.digits ∙ decimal_digits _ _ (search rules) c.decimal-count.ensures.len))

pub returns : goal.returns
returns c = rw (c.decimal-count.ensures.digits ∙ decimal_digits _ _ (search rules) c.decimal-count.ensures.len) at c.write_bytes.ensures
