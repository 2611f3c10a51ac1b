-- The instructions that load and store words, at an offset from the address in a register: RISC-V ISA Volume I, "Load and Store Instructions".
use Rattle.std.specs.Prelude.{ℕ, pos}
use Rattle.cmm_words.specs.declared.width.Width.{Width}
use Rattle.cmm_words.specs.declared.width.Width.TheVariants.{W8, W16, W32, W64}
use Rattle.rv_table.specs.declared.instruction.Instr.{Instr}
use Rattle.rv_table.specs.declared.instruction.Instr.TheVariants.{Lbu, Lhu, Lwu, Ld, Sb, Sh, Sw, Sd}

abbrev pub load_part : Width → ℕ → ℕ → ℕ → Instr
load_part W8 rd base o = Lbu rd base (pos o)
load_part W16 rd base o = Lhu rd base (pos o)
load_part W32 rd base o = Lwu rd base (pos o)
load_part W64 rd base o = Ld rd base (pos o)

abbrev pub store_part : Width → ℕ → ℕ → ℕ → Instr
store_part W8 base r o = Sb base r (pos o)
store_part W16 base r o = Sh base r (pos o)
store_part W32 base r o = Sw base r (pos o)
store_part W64 base r o = Sd base r (pos o)
