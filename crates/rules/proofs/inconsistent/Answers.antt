-- `inconsistent` asks whether the two sets share a role, by what its callees promise.
use Rattle.sheets.specs.Words.{said_in}
use Rattle.rules.specs.Tests.{inconsistent_role}
use Rattle.rules.proofs.inconsistent.Goals as goal

pub returns : goal.returns
unfolding inconsistent_role said_in
returns c = cc
