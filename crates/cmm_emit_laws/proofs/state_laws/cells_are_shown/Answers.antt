use Rattle.cmm_emit_laws.proofs.Accessing.{loaded_is_spelled, there_is_accessible}
use Rattle.cmm_emit_laws.proofs.Showing.{store_shows}
use Rattle.cmm_emit_laws.proofs.state_laws.cells_are_shown.Goals as goal

pub returns-clause-reached : goal.returns-clause-reached
returns-clause-reached c = λ s m y rest h store carried t address size is_for shows some few aligned there. there_is_accessible s m is_for store address size shows.stack some few aligned there

pub returns-clause-loads : goal.returns-clause-loads
returns-clause-loads c = λ y rest s h store carried t size address found shows is. loaded_is_spelled store.memory t.memory size address found shows.cells is

pub returns-clause-stores : goal.returns-clause-stores
returns-clause-stores c = store_shows
