-- `try_next` tries the step where no step before it was none.
use Rattle.std.proofs.Common.{sym, ◌∙◌}
use Rattle.running.specs.Trying.{next_past, next_goes, next_breaks}
use Rattle.running.proofs.state.try_next.Goals as goal

pub returns-then-is_some : goal.returns-then-is_some
returns-then-is_some c = next_past _ _ (sym c.is_some.ensures ∙ c.if-is_some.true)

pub returns-then-try_step : goal.returns-then-try_step
returns-then-try_step c = next_goes _ _ (sym c.is_some.ensures ∙ c.if-is_some.false) c.try_step.ensures c.if-try_step.true

pub returns : goal.returns
returns c = next_breaks _ _ (sym c.is_some.ensures ∙ c.if-is_some.false) c.try_step.ensures c.if-try_step.false
