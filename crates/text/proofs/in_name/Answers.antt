-- `in_name` is the test of a name's byte, range by range.
use Rattle.std.proofs.Common.{Bool, ◌||◌, eqb, ap, ◌∙◌}
use Rattle.std.proofs.Math.Bool.{or_comm, or_assoc}
use Rattle.text.specs.Forms.{name_byte, between}
use Rattle.text.proofs.in_name.Goals as goal

pub returns : goal.returns
unfolding name_byte between
returns c =
    let byte = c.args.byte in
    ap (λ (b : Bool). b || eqb byte 95) (c.is_ascii_alphanumeric.ensures.value ∙ or_assoc (between 48 57 byte) (between 65 90 byte) (between 97 122 byte) ∙ or_comm (between 48 57 byte) (between 65 90 byte || between 97 122 byte))
