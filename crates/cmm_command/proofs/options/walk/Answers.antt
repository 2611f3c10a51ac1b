use Rattle.std.proofs.Common.{codes}
use Rattle.clap.specs.Words.{app_of}
use Rattle.cmm_command.specs.Options.{operand, walk_app}
use Rattle.cmm_command.proofs.Adding.{more, more_last}
use Rattle.cmm_command.proofs.options.walk.Goals as goal

pub returns : goal.returns
unfolding walk_app
returns c = more_last c.with_operand-2.result (app_of c.in_ok-command.command) _ (operand (codes "snapshot")) c.with_operand-2.ensures (more _ (app_of c.helpless.result) _ (operand (codes "image")) c.in_ok-command.ensures c.helpless.ensures)
