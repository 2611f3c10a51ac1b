use Rattle.cmm_emit_laws.proofs.Reading.{register_shows}
use Rattle.cmm_emit_laws.proofs.state_laws.registers_are_shown.Goals as goal

pub returns-clause-read : goal.returns-clause-read
returns-clause-read c = λ y rest s h store r t carried within shows. shows.registers.1 r within

pub returns-clause-put : goal.returns-clause-put
returns-clause-put c = λ y rest s m h store r n t u is_for within small writes shows. register_shows y rest s m is_for h store r within t n small u writes shows
