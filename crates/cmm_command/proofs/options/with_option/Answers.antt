use Rattle.cmm_command.proofs.Adding.{adds_last}
use Rattle.cmm_command.proofs.options.with_option.Goals as goal

pub returns : goal.returns
returns c = adds_last _ _ _ c.arg.result c.arg.ensures c.option.ensures.own c.option.ensures.rule
