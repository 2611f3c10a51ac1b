-- Instructions that stand in the code one after another.
use Rattle.std.specs.Prelude.{◌≡◌, ℕ, ◌+◌, List, [], ◌∷◌, Option, Some}
use Rattle.std.specs.Int.{w32, to_le_bytes}
use Rattle.std.specs.List.{flat_map}
use Rattle.std.specs.Option.{option_and_then}
use Rattle.rv_table.specs.declared.instruction.Instr.{Instr}
use Rattle.rv_table.specs.Decoding.{instr_of}
use Rattle.rv_table.specs.Machine.{fetched}
use Rattle.rv_table.specs.Table.{word_of}

-- the instruction that is fetched and decoded at an address
abbrev pub standing : List ℕ → ℕ → Option Instr
standing code pc = option_and_then instr_of (fetched code pc)

-- these instructions stand from an address on
abbrev pub Stands : List ℕ → ℕ → List Instr → Type 0
Stands code pc [] = Unit {0}
Stands code pc (i ∷ is) = (standing code pc ≡ Some i) × Stands code (pc + 4) is

-- the bytes of these instructions, one after another, the low byte of each word first
abbrev pub code_of : List Instr → List ℕ
code_of is = flat_map (λ i. to_le_bytes w32 (word_of i)) is
