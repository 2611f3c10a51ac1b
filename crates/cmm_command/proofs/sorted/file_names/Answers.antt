use Rattle.std.proofs.Common.{◌∙◌, sym}
use Rattle.cmm_command.proofs.Sorting.{file_names-kept, file_names-refused}
use Rattle.cmm_command.proofs.sorted.file_names.Goals as goal

pub returns-in_ok-names : goal.returns-in_ok-names
returns-in_ok-names c = file_names-kept c.args.texts.now c.in_ok-names.names (sym c.are_file_names.ensures ∙ c.if-are_file_names.true) c.in_ok-names.ensures

pub returns-else-are_file_names : goal.returns-else-are_file_names
returns-else-are_file_names c = file_names-refused c.args.texts.now (sym c.are_file_names.ensures ∙ c.if-are_file_names.false)
