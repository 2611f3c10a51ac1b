use Rattle.cmm_elaboration.proofs.AllForms.{forms_are_in_range}
use Rattle.cmm_elaboration.proofs.laws.forms_are_in_range.Goals as goal

pub returns : goal.returns
returns c = forms_are_in_range
