-- `at` looks a name up where there is one.
use Rattle.std.proofs.Common.{◌∙◌}
use Rattle.tables.specs.NameLaws.{name_row_lem, name_none}
use Rattle.tables.proofs.Names.at.Goals as goal

pub returns-then-place-self : goal.returns-then-place-self
returns-then-place-self c = c.row.ensures ∙ name_row_lem c.args.self.count c.args.place c.args.self.words.now c.if-place-self.true

pub returns : goal.returns
returns c = c.pack.ensures ∙ name_none c.args.self.count c.args.place c.args.self.words.now c.if-place-self.false
