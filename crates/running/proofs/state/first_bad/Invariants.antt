-- `first_bad` goes through the people; the invariant: none before the place is bad.
use Rattle.ledgers.specs.Parts.{rows_in}
use Rattle.ledgers.specs.Ledger.{people, goal_sets}
use Rattle.steps.specs.Tests.{bad_person}
use Rattle.running.specs.Looking.{Passed}
use Rattle.running.proofs.state.first_bad.Given as goal

abbrev pub invariant-loop-place : goal.invariant-loop-place
invariant-loop-place l = Passed people (bad_person (rows_in goal_sets l.ledger l.count)) l.ledger l.users l.place
