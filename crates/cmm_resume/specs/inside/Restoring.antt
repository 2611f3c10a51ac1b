-- Registers that are restored.
use Rattle.std.specs.Prelude.{ℕ, true, false}
use Rattle.rv_table.specs.Machine.{State}
use Rattle.cmm_abi.specs.Registers.{is_callee_saves}
use Rattle.cmm_abi.specs.Regions.{Place, word_at}

-- the registers, where the callee-saves registers have what is at these places
abbrev pub had_registers : (ℕ → Place) → State → ℕ → ℕ
had_registers places s n = elim (is_callee_saves n) [ true ↦ word_at s (places n) | false ↦ s.registers n ]
