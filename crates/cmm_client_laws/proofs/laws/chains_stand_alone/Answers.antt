use Rattle.cmm_client_laws.proofs.Alone.{chains_are_stopped, stopped_are_chains}
use Rattle.cmm_client_laws.proofs.laws.chains_stand_alone.Goals as goal

pub returns-clause-stopped : goal.returns-clause-stopped
returns-clause-stopped c = chains_are_stopped

pub returns-clause-chains : goal.returns-clause-chains
returns-clause-chains c = stopped_are_chains
