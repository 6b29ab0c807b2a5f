-- `lowest_goal` goes through the goals; the invariant: none before the place is held whole.
use Rattle.roles.specs.Sets.{includes}
use Rattle.ledgers.specs.Ledger.{goal_sets}
use Rattle.running.specs.Looking.{Passed}
use Rattle.running.proofs.state.lowest_goal.Given as goal

abbrev pub invariant-loop-place : goal.invariant-loop-place
invariant-loop-place l = Passed goal_sets (includes l.roles) l.ledger l.count l.place
