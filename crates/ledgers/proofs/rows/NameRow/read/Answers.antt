-- `read` of a name reads it as the first of a table that begins there.
use Rattle.std.proofs.Common.{◌∙◌}
use Rattle.ledgers.specs.LedgerLaws.{name_lent}
use Rattle.ledgers.proofs.rows.NameRow.read.Goals as goal

pub returns : goal.returns
returns c = c.row.ensures ∙ name_lent c.args.ledger.now c.args.at
