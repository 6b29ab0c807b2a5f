-- `same_people` goes through the people that are counted; the invariant: those passed over are the same.
use Rattle.std.proofs.Common.{ℕ, ◌<◌, ◌≡◌}
use Rattle.ledgers.specs.Parts.{row_at}
use Rattle.ledgers.specs.Ledger.{people}
use Rattle.merging.proofs.directory.same_people.Given as goal

abbrev pub invariant-loop-user : goal.invariant-loop-user
invariant-loop-user l = (before : ℕ) → before < l.user → row_at people l.one before ≡ row_at people l.two before
