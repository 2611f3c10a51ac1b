use Rattle.rv_table.proofs.Standing.{length-code_of, stands_behind}
use Rattle.rv_table.proofs.laws.code_stands.Goals as goal

pub returns-clause-stands : goal.returns-clause-stands
returns-clause-stands c = stands_behind

pub returns-clause-length : goal.returns-clause-length
returns-clause-length c = length-code_of
