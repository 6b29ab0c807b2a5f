-- `is_typing` compares all of the text with the header, or its first nine bytes with the header and its LF.
use Rattle.std.proofs.Common.{ap₂, ◌∙◌}
use Rattle.std.specs.Prelude.{◌||◌}
use Rattle.typings.specs.FirstLine.{typing_begun}
use Rattle.typings.proofs.kind.is_typing.Goals as goal

pub returns : goal.returns
returns c = ap₂ ◌||◌ c.same.ensures c.begins_with.ensures ∙ typing_begun _
