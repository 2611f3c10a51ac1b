use Rattle.cmm_effects.proofs.Globals as lemma
use Rattle.cmm_effects.proofs.laws.globals_are_read.Goals as goal

pub returns : goal.returns
returns c = lemma.globals_are_read
