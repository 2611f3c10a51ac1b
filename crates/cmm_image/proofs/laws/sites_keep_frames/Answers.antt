use Rattle.cmm_image.proofs.SiteLaws.{sites_keep_frames}
use Rattle.cmm_image.proofs.laws.sites_keep_frames.Goals as goal

pub returns : goal.returns
returns c = sites_keep_frames
