use Rattle.cmm_elaboration.proofs.Rooms.{stackdata_fits}
use Rattle.cmm_elaboration.proofs.laws.stackdata_fits.Goals as goal

pub returns : goal.returns
returns c = stackdata_fits
