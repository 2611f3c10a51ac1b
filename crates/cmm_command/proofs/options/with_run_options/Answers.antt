use Rattle.std.proofs.Common.{codes}
use Rattle.clap.specs.Words.{app_of}
use Rattle.cmm_command.specs.Options.{option}
use Rattle.cmm_command.proofs.Adding.{more, more_last}
use Rattle.cmm_command.proofs.options.with_run_options.Goals as goal

pub returns : goal.returns
returns c = more_last c.with_option-3.result (app_of c.in_ok-command-2.command) _ (option (codes "stack")) c.with_option-3.ensures
    (more _ (app_of c.in_ok-command.command) _ (option (codes "steps")) c.in_ok-command-2.ensures c.in_ok-command.ensures)
