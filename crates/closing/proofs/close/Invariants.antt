-- `close` takes one round after another; the invariant: what is new in the present pair is noted, and the closure is what the rounds
-- left over give of it.
use Rattle.sheets.specs.Words.{said_in}
use Rattle.closing.proofs.Reached.{Reached}
use Rattle.closing.proofs.close.Given as goal

abbrev pub invariant-loop : goal.invariant-loop
invariant-loop l = Reached (said_in l.sheet) l.fn.pair l.now l.news l.counter
