-- `tell_place` tells where the line begins and how long it is; the text's number is small.
use Rattle.std.proofs.Common.{◌∙◌, arith}
use Rattle.telling.specs.Numbers.{place_text, place_values}
use Rattle.ledgers.specs.LedgerLaws.{flag_small}
use Rattle.telling.specs.NumberLaws.{text_number}
use Rattle.telling.proofs.tell_place.Goals as goal

pub overflow_add-place : goal.overflow_add-place
overflow_add-place c = omega (arith, flag_small c.args.place.evidence)

pub returns : goal.returns
unfolding place_text place_values
returns c = record { says = c.tell.ensures.says ∙ text_number c.args.place.evidence; held = c.tell.ensures.held }
