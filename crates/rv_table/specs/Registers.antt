-- The registers as a function from a register's number to its value. Register 0 is 0.
use Rattle.std.specs.Prelude.{ℕ, ◌==◌, true, false, slice_index}
use Rattle.rv_table.specs.declared.registers.Regs.{Regs}

-- what the registers read as
abbrev pub registers_of : Regs → ℕ → ℕ
registers_of r k = elim (k == 0) [ true ↦ 0 | false ↦ slice_index r.x k ]

-- the registers after one is written; writing register 0 changes nothing
abbrev pub with_register : (ℕ → ℕ) → ℕ → ℕ → ℕ → ℕ
with_register x rd value k = elim (rd == 0) [ true ↦ x k | false ↦ elim (k == rd) [ true ↦ value | false ↦ x k ] ]
