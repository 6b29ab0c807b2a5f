-- `set_of` reads the two words of the role's set; past role 127 the sheet has none.
use Rattle.std.proofs.Common.{sym, ◌∙◌, arith}
use Rattle.sheets.specs.Words.{place_of, set_at, set_in}
use Rattle.sheets.specs.Places.{column_range, past_sheet}
use Rattle.sheets.proofs.set_of.Goals as goal

pub returns-then-role-lt128 : goal.returns-then-role-lt128
unfolding set_in set_at place_of
returns-then-role-lt128 c = rw c.column_number.ensures.value

pub returns : goal.returns
unfolding set_in place_of
returns c = c.empty.ensures ∙ sym (past_sheet c.args.sheet.now (place_of c.args.column c.args.role) (omega (arith, (column_range c.args.column).0)))
