use Rattle.cmm_grammar.proofs.UnitLaws.{unit_is_read, read_is_unit}
use Rattle.cmm_grammar.proofs.laws.units_are_read.Goals as goal

pub returns-clause-complete : goal.returns-clause-complete
returns-clause-complete c = unit_is_read

pub returns-clause-sound : goal.returns-clause-sound
returns-clause-sound c = read_is_unit
