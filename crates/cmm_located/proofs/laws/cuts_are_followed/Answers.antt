use Rattle.cmm_located.proofs.Cuts.{cuts_are_followed}
use Rattle.cmm_located.proofs.laws.cuts_are_followed.Goals as goal

pub returns : goal.returns
returns c = cuts_are_followed c.nodes_ask_by_reads.ensures.orders
