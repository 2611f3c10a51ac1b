use Rattle.cmm_client_laws.proofs.Clients.{client_done}
use Rattle.cmm_client_laws.proofs.Keeping.{answers_keep}
use Rattle.cmm_client_laws.proofs.laws.answers_are_done.Goals as goal

pub returns-clause-done : goal.returns-clause-done
returns-clause-done c s p y rest l values at run told waits going logged =
    client_done s p y rest l told.tables told.planned told.is_for told.region told.frames told.apart told.knows told.scripts values at run waits going logged

pub returns-clause-kept : goal.returns-clause-kept
returns-clause-kept c s p values at = answers_keep s p at values
