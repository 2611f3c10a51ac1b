use Rattle.cmm_grammar.proofs.UnitLaws.{one_unit}
use Rattle.cmm_grammar.proofs.laws.units_are_one.Goals as goal

pub returns : goal.returns
returns c = one_unit
