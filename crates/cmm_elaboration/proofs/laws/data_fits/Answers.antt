use Rattle.cmm_elaboration.proofs.DataSize.{data_fits}
use Rattle.cmm_elaboration.proofs.laws.data_fits.Goals as goal

pub returns : goal.returns
returns c = data_fits
