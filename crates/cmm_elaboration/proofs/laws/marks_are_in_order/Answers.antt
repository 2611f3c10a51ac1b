use Rattle.cmm_elaboration.proofs.MarkNumbers.{marks_are_in_order}
use Rattle.cmm_elaboration.proofs.laws.marks_are_in_order.Goals as goal

pub returns : goal.returns
returns c = marks_are_in_order
