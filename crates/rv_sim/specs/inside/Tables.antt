-- What every table of decoded code keeps.
use Rattle.std.specs.Prelude.{ℕ, ◌+◌, ◌*◌, ◌≤◌, List, length, slice_get, Option, IfSome}
use Rattle.rv_table.specs.declared.instruction.Instr.{Instr}
use Rattle.rv_table.specs.Machine.{code_base, data_base}
use Rattle.rv_table.specs.Table.{IsValid}

-- its instructions are valid, and it has no more words than lie before the data
pub record IsTable (table : List (Option Instr)) : Type 0 where
  pub valid : (n : ℕ) → IfSome (slice_get table n) (λ word. IfSome word IsValid)
  pub short : code_base + 4 * length table ≤ data_base
