use Rattle.cmm_elaboration.proofs.FewSpans.{spans_are_few}
use Rattle.cmm_elaboration.proofs.laws.spans_are_few.Goals as goal

pub returns : goal.returns
returns c = spans_are_few
