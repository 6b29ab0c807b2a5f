-- `add_if` goes by its test.
use Rattle.sheets.specs.Turned.{add_if}
use Rattle.sheets.proofs.add_if.Goals as goal

pub returns-then-test : goal.returns-then-test
unfolding add_if
returns-then-test c = rw c.if-test.true c.union.ensures

pub returns : goal.returns
unfolding add_if
returns c = rw c.if-test.false
