use Rattle.cmm_located.proofs.Clients.{clients_are_followed}
use Rattle.cmm_located.proofs.laws.clients_are_followed.Goals as goal

pub returns : goal.returns
returns c = clients_are_followed
