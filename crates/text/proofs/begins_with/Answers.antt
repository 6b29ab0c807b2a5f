-- `begins_with` compares as many bytes as the other has, where there are so many.
use Rattle.std.proofs.Common.{◌∙◌}
use Rattle.text.specs.Begins.{begins_pointwise}
use Rattle.text.proofs.begins_with.Goals as goal

pub returns : goal.returns
returns c = c.starts_with.ensures.value ∙ begins_pointwise c.args.start.now c.args.s.now
