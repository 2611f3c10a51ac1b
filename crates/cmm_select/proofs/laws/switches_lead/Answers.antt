use Rattle.cmm_select.proofs.Short as lemma
use Rattle.cmm_select.proofs.laws.switches_lead.Goals as goal

pub returns : goal.returns
returns c = lemma.switches_lead
