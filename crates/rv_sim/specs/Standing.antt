-- What stands at each address of code, and a table of it.
use Rattle.std.specs.Prelude.{◌≡◌, ℕ, ◌+◌, ◌*◌, ◌/◌, ◌<◌, List, length, slice_get, Result, Err, Option, Some, None}
use Rattle.std.specs.Option.{ok_or}
use Rattle.rv_table.specs.declared.instruction.Instr.{Instr}
use Rattle.rv_table.specs.declared.trap.TrapKind.{TrapKind}
use Rattle.rv_table.specs.declared.trap.TrapKind.TheVariants.{NoInstruction, BadTarget}
use Rattle.rv_table.specs.Decoding.{instr_of}
use Rattle.rv_table.specs.Machine.{code_base, fetched}
use Rattle.rv_table.specs.Stands.{standing}

-- the instruction that is fetched and decoded at an address, or the kind of the trap in its place
abbrev pub found_at : List ℕ → ℕ → Result Instr TrapKind
found_at code pc = elim (fetched code pc) [ Some word ↦ ok_or (instr_of word) NoInstruction | None ↦ Err BadTarget ]

-- A table has the instruction of each whole word of the code, and none for a word that is no instruction.
pub record IsTableOf (code : List ℕ) (table : List (Option Instr)) : Type 0 where
  pub count : length table ≡ length code / 4
  pub each : (n : ℕ) → n < length table → slice_get table n ≡ Some (standing code (code_base + 4 * n))
