-- `read_both` reads the policy, and where it is read, the typing over it.
use Rattle.std.proofs.Common.{Err, ◌≡◌, refl, arith, rules}
use Rattle.reading.specs.Told.{told, untold}
use Rattle.places.specs.PlaceLaws.{after_refused, over_told}
use Rattle.places.proofs.read_both.Goals as goal

pub returns-in_err-c : goal.returns-in_err-c
returns-in_err-c c = let same : c.from_residual.result ≡ Err c.in_err-c.field-0.0 = search rules in rw same (after_refused _ _ _ (untold c.in_err-c.ensures refl))

pub read_typing-requires : goal.read_typing-requires
read_typing-requires c = (told c.in_ok-c.ensures refl).limited.roles

pub invariant_of-roles : goal.invariant_of-roles
invariant_of-roles c = record { within = omega (arith, (told c.in_ok-c.ensures refl).limited.roles) }

pub returns-in_err-read_typing : goal.returns-in_err-read_typing
returns-in_err-read_typing c = let same : c.from_residual-in_err-read_typing.result ≡ Err c.in_err-read_typing.field-0.0 = search rules in rw same (over_told (told c.in_ok-c.ensures refl) _ c.in_err-read_typing.ensures)

pub returns : goal.returns
returns c = over_told (told c.in_ok-c.ensures refl) _ c.in_ok-read_typing.ensures
