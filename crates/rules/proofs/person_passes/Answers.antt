-- `person_passes` joins the three tests of a person, by what its callees promise.
use Rattle.sheets.specs.Words.{said_in}
use Rattle.rules.specs.Tests.{implies, holds_high, person_passes}
use Rattle.rules.proofs.person_passes.Goals as goal

pub returns : goal.returns
unfolding person_passes holds_high implies said_in
returns c = cc
