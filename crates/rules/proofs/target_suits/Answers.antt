-- `target_suits` joins the four tests of a target, by what its callees promise.
use Rattle.sheets.specs.Words.{said_in}
use Rattle.rules.specs.Tests.{implies, holds_high, unopposed_target, target_suits}
use Rattle.rules.proofs.target_suits.Goals as goal

pub returns : goal.returns
unfolding target_suits holds_high unopposed_target implies said_in
returns c = cc
