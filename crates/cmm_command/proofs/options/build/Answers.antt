use Rattle.std.proofs.Common.{codes}
use Rattle.clap.specs.Words.{app_of}
use Rattle.cmm_command.specs.Options.{build_app, output, units}
use Rattle.cmm_command.proofs.Adding.{more, more_last}
use Rattle.cmm_command.proofs.options.build.Goals as goal

pub returns : goal.returns
unfolding build_app
returns c = more_last c.with_output.result (app_of c.in_ok-command.command) _ (output (codes "image")) c.with_output.ensures (more _ (app_of c.helpless.result) _ units c.in_ok-command.ensures c.helpless.ensures)
