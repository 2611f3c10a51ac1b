-- What worked rows unfold: units as text, and programs by the constructors of samples.
use Rattle.cmm_ast.specs.declared.unit.Item.TheBlock as Items
use Rattle.cmm_elaboration.proofs.RuleTexts.{opened as texts}
use Rattle.cmm_program.proofs.Shared.{opened as programs}

unfoldable pub opened : Unit {0}
unfolding texts programs Items.hidden-the_row-Item-0
opened = tt
