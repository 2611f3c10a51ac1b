use Rattle.cmm_link.proofs.Placements.{places_have}
use Rattle.cmm_link.proofs.laws.places_have_frames.Goals as goal

pub returns : goal.returns
returns c = places_have
