-- `goal_passes` closes the goal and looks for a label H or a clash, by what its callees promise.
use Rattle.sheets.specs.Words.{said_in}
use Rattle.rules.specs.Tests.{holds_high, goal_passes}
use Rattle.rules.proofs.goal_passes.Goals as goal

pub returns : goal.returns
unfolding goal_passes holds_high said_in
returns c = cc
