use Rattle.std.proofs.Common.{ap}
use Rattle.clap.specs.Words.{app_of}
use Rattle.cmm_command.specs.Options.{exec_app, units, with_run_options}
use Rattle.cmm_command.proofs.Adding.{by_another, more}
use Rattle.cmm_command.proofs.options.exec.Goals as goal

pub returns : goal.returns
unfolding exec_app
returns c = by_another c.with_run_options.result (with_run_options (app_of c.in_ok-command.command)) _ c.with_run_options.ensures (ap with_run_options (more _ (app_of c.helpless.result) _ units c.in_ok-command.ensures c.helpless.ensures))
