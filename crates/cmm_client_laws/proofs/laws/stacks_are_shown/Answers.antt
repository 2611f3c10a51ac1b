use Rattle.cmm_client_laws.proofs.Clients.{chain_there, ending_is}
use Rattle.cmm_client_laws.proofs.laws.stacks_are_shown.Goals as goal

pub returns-clause-chains : goal.returns-clause-chains
returns-clause-chains c s p y rest l at t told is =
    chain_there s p y rest l told.tables told.planned told.is_for told.region told.frames told.apart told.knows told.scripts at t is

pub returns-clause-walks : goal.returns-clause-walks
returns-clause-walks c s p y rest l at t told is =
    ending_is s p y rest l told.tables told.planned told.is_for told.region told.frames told.apart told.knows told.scripts at t is
