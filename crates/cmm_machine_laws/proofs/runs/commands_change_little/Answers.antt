use Rattle.cmm_machine_laws.proofs.Commands.{command_spares}
use Rattle.cmm_machine_laws.proofs.runs.commands_change_little.Goals as goal

pub returns-clause-spares : goal.returns-clause-spares
returns-clause-spares c = command_spares
