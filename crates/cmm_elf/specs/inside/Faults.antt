-- Why bytes are no file.
use Rattle.std.specs.Prelude.{ℕ, ◌-◌}
use Rattle.cmm_format.specs.declared.fault.Unread.{Unread}
use Rattle.cmm_format.specs.declared.fault.Unread.TheVariants.{Breaks, Memory}
use Rattle.cmm_elf.specs.declared.fault.ElfFault.{ElfFault}
use Rattle.cmm_elf.specs.declared.fault.ElfFault.TheVariants.{At}
use Rattle.cmm_elf.specs.declared.fault.ElfFault.TheVariants as elf_fault

-- why there is no file in n bytes
abbrev pub fault_of : ℕ → Unread → ElfFault
fault_of length (Breaks b) = At b.rule (length - b.left)
fault_of length Memory = elf_fault.Memory
