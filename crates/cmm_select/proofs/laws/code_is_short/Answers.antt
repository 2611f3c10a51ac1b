use Rattle.cmm_select.proofs.Short as lemma
use Rattle.cmm_select.proofs.laws.code_is_short.Goals as goal

pub returns : goal.returns
returns c = lemma.code_is_short
