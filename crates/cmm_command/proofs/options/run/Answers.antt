use Rattle.std.proofs.Common.{◌∙◌, ap, codes}
use Rattle.clap.specs.Words.{app_of}
use Rattle.cmm_command.specs.Options.{operand, option, run_app, with_run_options}
use Rattle.cmm_command.proofs.Adding.{more, more_last}
use Rattle.cmm_command.proofs.options.run.Goals as goal

pub returns : goal.returns
unfolding run_app
returns c = more_last c.with_option.result (app_of c.in_ok-command-2.command) _ (option (codes "save")) c.with_option.ensures
    (c.in_ok-command-2.ensures ∙ ap with_run_options (more _ (app_of c.helpless.result) _ (operand (codes "image")) c.in_ok-command.ensures c.helpless.ensures))
