-- Registers of a program, by their names and widths.
use Rattle.std.specs.Prelude.{ℕ, List, unwrap_or, Option, None}
use Rattle.cmm_words.specs.declared.width.Width.{Width}
use Rattle.cmm_words.specs.declared.width.Width.TheVariants.{W64}
use Rattle.cmm_program.specs.declared.program.Global.{Global}

abbrev pub global_by : (List ℕ → Option (Option Width)) → List ℕ → Global
global_by width name = record { name = name; width = unwrap_or (unwrap_or (width name) None) W64 }
