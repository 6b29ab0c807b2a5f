-- `meet` is the meeting, word by word.
use Rattle.std.proofs.Common.{refl}
use Rattle.roles.specs.Sets.{meet_of}
use Rattle.roles.proofs.RoleSet.meet.Goals as goal

pub returns : goal.returns
unfolding meet_of
returns c = refl
