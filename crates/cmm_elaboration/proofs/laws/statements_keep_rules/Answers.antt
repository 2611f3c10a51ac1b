use Rattle.cmm_elaboration.proofs.Forms.{statements_keep_rules}
use Rattle.cmm_elaboration.proofs.laws.statements_keep_rules.Goals as goal

pub returns : goal.returns
returns c = statements_keep_rules
