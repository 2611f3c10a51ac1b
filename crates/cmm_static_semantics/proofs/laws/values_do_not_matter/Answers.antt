use Rattle.cmm_static_semantics.proofs.Alike.{judged_alike}
use Rattle.cmm_static_semantics.proofs.laws.values_do_not_matter.Goals as goal

pub returns : goal.returns
returns c = judged_alike
