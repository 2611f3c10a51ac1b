use Rattle.std.proofs.Common.{codes}
use Rattle.clap.specs.Words.{app_of}
use Rattle.cmm_command.specs.Options.{operand, segments_app}
use Rattle.cmm_command.proofs.Adding.{more_last}
use Rattle.cmm_command.proofs.options.segments.Goals as goal

pub returns : goal.returns
unfolding segments_app
returns c = more_last c.with_operand.result (app_of c.helpless.result) _ (operand (codes "file")) c.with_operand.ensures c.helpless.ensures
