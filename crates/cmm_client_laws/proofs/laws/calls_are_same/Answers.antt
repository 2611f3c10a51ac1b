use Rattle.cmm_client_laws.proofs.Clients.{call_is}
use Rattle.cmm_client_laws.proofs.laws.calls_are_same.Goals as goal

pub returns : goal.returns
returns c s p y rest l values at run told waits =
    call_is s p y rest l told.tables told.planned told.is_for told.region told.frames told.apart told.knows told.scripts values at run waits
