-- What a stopped program is, beside its image.
use Rattle.rv_table.specs.declared.registers.Regs.{Regs}
use Rattle.rv_memory.specs.Regions.{Regions}

pub record Stopped : Type 0 where
  pub regs : Regs
  pub memory : Regions
