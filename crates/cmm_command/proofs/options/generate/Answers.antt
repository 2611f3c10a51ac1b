use Rattle.std.proofs.Common.{codes}
use Rattle.clap.specs.Words.{app_of}
use Rattle.cmm_command.specs.Options.{generate_app, operand}
use Rattle.cmm_command.proofs.Adding.{more_last}
use Rattle.cmm_command.proofs.options.generate.Goals as goal

pub returns : goal.returns
unfolding generate_app
returns c = more_last c.with_operand.result (app_of c.helpless.result) _ (operand (codes "number")) c.with_operand.ensures c.helpless.ensures
