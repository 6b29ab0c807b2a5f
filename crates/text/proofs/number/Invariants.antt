-- `number` goes through the digits: the number written is what the passed digits write, followed by what is left.
use Rattle.std.proofs.Common.{◌^◌, ◌<◌, drop, ◌≡◌}
use Rattle.text.specs.Forms.{every, between, decimal}
use Rattle.text.proofs.number.Given as goal

abbrev pub invariant-loop-digit : goal.invariant-loop-digit
invariant-loop-digit l = (l.n < 10 ^ l.digit-index) × (every (between 48 57) l.field ≡ every (between 48 57) (drop l.digit-index l.field)) × (decimal 0 l.field ≡ decimal l.n (drop l.digit-index l.field))
