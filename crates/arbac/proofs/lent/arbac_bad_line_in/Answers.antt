-- `arbac_bad_line_in`: a line does not end before it begins.
use Rattle.places.specs.PlaceLaws.{place_ordered}
use Rattle.arbac.proofs.lent.arbac_bad_line_in.Goals as goal

pub tell_place-requires : goal.tell_place-requires
tell_place-requires c = (c.if-place-lt2.false, place_ordered _ _ _ c.bad_place_in.ensures.value)
