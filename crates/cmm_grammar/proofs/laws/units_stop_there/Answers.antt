use Rattle.cmm_grammar.proofs.UnitLaws.{is_unexpected, each_is_stopped}
use Rattle.cmm_grammar.proofs.MeetsUnits.{is_too_deep}
use Rattle.cmm_grammar.proofs.laws.units_stop_there.Goals as goal

pub returns-clause-unexpected : goal.returns-clause-unexpected
returns-clause-unexpected c = is_unexpected

pub returns-clause-too_deep : goal.returns-clause-too_deep
returns-clause-too_deep c = is_too_deep

pub returns-clause-stopped : goal.returns-clause-stopped
returns-clause-stopped c = each_is_stopped
