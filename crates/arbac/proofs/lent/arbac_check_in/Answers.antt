-- `arbac_check_in` tells the answer to the two texts, whose user is listed.
use Rattle.std.proofs.Common.{◌∙◌}
use Rattle.ledgers.specs.MemoryLaws.{memory_enough}
use Rattle.arbac.proofs.FaceLaws.{user_listed}
use Rattle.arbac.proofs.lent.arbac_check_in.Goals as goal

pub tell_check-requires : goal.tell_check-requires
tell_check-requires c = (c.if-values-lt5.false, user_listed _ _ (c.check_in.ensures.value ∙ memory_enough _ _ _ _ c.if-memory-lt-WORDS.false))
