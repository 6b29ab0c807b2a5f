-- `is_label` compares with the two labels.
use Rattle.std.proofs.Common.{◌||◌, ap₂}
use Rattle.text.specs.Forms.{is_label}
use Rattle.text.proofs.is_label.Goals as goal

pub returns : goal.returns
unfolding is_label
returns c = ap₂ ◌||◌ c.same.ensures c.same-2.ensures
