-- `number_fields` puts one field past another; the invariant: the fields of the numbers before the place are put.
use Rattle.std.proofs.Common.{◌*◌, ◌≡◌, length, take}
use Rattle.showing.specs.Steps.{GoesOn}
use Rattle.showing.proofs.number_fields.Given as goal

abbrev pub invariant-loop-number : goal.invariant-loop-number
invariant-loop-number l = (length l.out ≡ length l.initial.out) × GoesOn (take l.number-index l.numbers) (21 * l.number-index) l.at l.initial.out l.to l.out
