-- Global registers: words of the region whose address is in register 4, each at an offset.
use Rattle.std.specs.Prelude.{ℕ, ◌+◌, ◌<◌, ◌^◌, IsTrue}
use Rattle.cmm_abi.specs.declared.registers.TheConstants.{REGION}
use Rattle.rv_table.specs.Machine.{MemoryMap, State, is_accessible, loaded}
use Rattle.cmm_effects.specs.Changes.{Writes}

-- what the register at an offset has
abbrev pub global_at : ℕ → State → ℕ
global_at offset s = loaded s.memory (s.registers REGION + offset) 8

-- instructions reach it
abbrev pub CanReachGlobal : ℕ → MemoryMap → State → Type 0
CanReachGlobal offset m s = (s.registers REGION + offset < 2 ^ 64) × IsTrue (is_accessible m (s.registers REGION + offset) 8)

-- a number is put into it, and nothing else is changed but scratch registers
abbrev pub PutsGlobal : ℕ → ℕ → State → State → Type 0
PutsGlobal offset n s t = Writes (s.registers REGION + offset) 8 n s t
