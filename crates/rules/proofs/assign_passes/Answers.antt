-- `assign_passes` passes a rule that nobody can use, and judges any other by its closure.
use Rattle.std.proofs.Common.{sym, ◌∙◌}
use Rattle.rules.specs.Tests.{assign_passes}
use Rattle.rules.proofs.assign_passes.Goals as goal

pub returns-then-inconsistent : goal.returns-then-inconsistent
unfolding assign_passes
returns-then-inconsistent c = rw (sym c.inconsistent.ensures ∙ c.if-inconsistent.true)

pub returns : goal.returns
unfolding assign_passes
returns c = rw (
  sym c.inconsistent.ensures ∙ c.if-inconsistent.false,
  c.shares.ensures,
  c.target_suits.ensures,
  c.close-pair.ensures,
  c.with-absent.ensures,
)
