-- What each command takes after its first word, as clap says it: the positional words in their order, and the options, each of which takes one
-- value. None has a flag for help.
use Rattle.std.specs.Prelude.{true, Some, codes}
use Rattle.clap.specs.Lexer.{usize_max}
use Rattle.clap.specs.Words.{App, Rule, Text, new_app, new_rule, with_rule}

abbrev pub no_help : App → App
no_help app = record app { top = record app.top { disable_help_flag = true } }

abbrev pub helpless_app : Text → App
helpless_app name = no_help (new_app name)

-- an option with this long name
abbrev pub option : Text → Rule
option name = record (new_rule name) { long = Some name }

-- a positional word that has to be there
abbrev pub operand : Text → Rule
operand name = record (new_rule name) { required = true }

-- UNIT, one or more
abbrev pub units : Rule
units = record (operand (codes "unit")) { range = Some (record { start_inclusive = 1; end_inclusive = usize_max }) }

-- `-o NAME`, which has to be there
abbrev pub output : Text → Rule
output name = record (operand name) { short = Some 111 }

-- `--client SCRIPT`, `--steps N` and `--stack BYTES`
abbrev pub with_run_options : App → App
with_run_options app = with_rule (with_rule (with_rule app (option (codes "client"))) (option (codes "steps"))) (option (codes "stack"))

unfoldable pub build_app : App
build_app = with_rule (with_rule (helpless_app (codes "build")) units) (output (codes "image"))

unfoldable pub run_app : App
run_app = with_rule (with_run_options (with_rule (helpless_app (codes "run")) (operand (codes "image")))) (option (codes "save"))

unfoldable pub exec_app : App
exec_app = with_run_options (with_rule (helpless_app (codes "exec")) units)

unfoldable pub walk_app : App
walk_app = with_rule (with_rule (helpless_app (codes "walk")) (operand (codes "image"))) (operand (codes "snapshot"))

unfoldable pub generate_app : App
generate_app = with_rule (helpless_app (codes "gen")) (operand (codes "number"))

unfoldable pub elf_app : App
elf_app = with_rule (with_rule (helpless_app (codes "elf")) (operand (codes "image"))) (output (codes "file"))

unfoldable pub migrate_app : App
migrate_app = with_rule (with_rule (helpless_app (codes "migrate")) (operand (codes "image"))) (output (codes "file"))

unfoldable pub segments_app : App
segments_app = with_rule (helpless_app (codes "segments")) (operand (codes "file"))
