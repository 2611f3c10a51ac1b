use Rattle.cmm_client_laws.proofs.Answering.{asked_alike}
use Rattle.cmm_client_laws.proofs.laws.commands_are_alike.Goals as goal

pub returns : goal.returns
returns c = λ s p y rest i m tables planned is_for frames apart knows. asked_alike s p y rest i tables planned m is_for frames apart knows
