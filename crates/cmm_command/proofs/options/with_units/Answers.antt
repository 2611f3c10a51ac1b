use Rattle.cmm_command.proofs.Adding.{adds_last}
use Rattle.cmm_command.proofs.options.with_units.Goals as goal

pub returns : goal.returns
returns c = adds_last _ _ _ c.arg.result c.arg.ensures c.units.ensures.own c.units.ensures.rule
