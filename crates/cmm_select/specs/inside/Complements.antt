-- The instructions of operators on one word of 64 bits: RISC-V ISA Volume I, "Integer Register-Immediate Instructions" and "Integer
-- Register-Register Operations".
use Rattle.std.specs.Prelude.{ℕ, negsuc}
use Rattle.cmm_words.specs.declared.operators.Op1.{Op1}
use Rattle.cmm_words.specs.declared.operators.Op1.TheVariants.{Com, Neg}
use Rattle.rv_table.specs.declared.instruction.Instr.{Instr}
use Rattle.rv_table.specs.declared.instruction.Instr.TheVariants.{Sub, Xori}

abbrev pub direct_of_one : Op1 → ℕ → ℕ → Instr
direct_of_one Com rd a = Xori rd a (negsuc 0)
direct_of_one Neg rd a = Sub rd 0 a
