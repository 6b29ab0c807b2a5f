-- `revoke_passes` joins the two reasons to pass, by what its callees promise.
use Rattle.sheets.specs.Words.{said_in}
use Rattle.rules.specs.Tests.{unneeded_target, revoke_passes}
use Rattle.rules.proofs.revoke_passes.Goals as goal

pub returns : goal.returns
unfolding revoke_passes unneeded_target said_in
returns c = rw (c.inconsistent.ensures, c.within.ensures, c.single.ensures, c.set_of.ensures)
