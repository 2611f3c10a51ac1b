use Rattle.cmm_chain.proofs.Holding.{put_keeps_frame}
use Rattle.cmm_chain.proofs.laws.places_hold.Goals as goal

pub returns-clause-frame : goal.returns-clause-frame
returns-clause-frame c = put_keeps_frame
