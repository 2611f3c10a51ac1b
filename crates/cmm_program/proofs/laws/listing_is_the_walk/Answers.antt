use Rattle.cmm_program.proofs.AskedStores.{listing_is_the_walk}
use Rattle.cmm_program.proofs.laws.listing_is_the_walk.Goals as goal

pub returns : goal.returns
returns c = listing_is_the_walk
