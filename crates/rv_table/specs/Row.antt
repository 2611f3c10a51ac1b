-- What each instruction asks for, one line a row: RISC-V ISA Volume I, "RV32I Base Integer Instruction Set", "RV64I Base Integer
-- Instruction Set" and "M Extension for Integer Multiplication and Division".
use Rattle.std.specs.Prelude.{ℕ, ◌*◌, ◌/◌, ◌%◌, ◌^◌, ◌==◌, not, true, false, pos, ◌*ℤ◌, nat_lt, bit_and, bit_or, bit_xor}
use Rattle.rv_table.specs.declared.effects.Effect.{Effect}
use Rattle.rv_table.specs.declared.effects.Effect.TheVariants.{Set, Jump, Branch, Load, Store, Ask, Break}
use Rattle.rv_table.specs.declared.instruction.Instr.{Instr}
use Rattle.rv_table.specs.declared.instruction.Instr.TheVariants.{Lui, Auipc, Jal, Jalr, Beq, Bne, Blt, Bge, Bltu, Bgeu, Lb, Lh, Lw, Ld, Lbu, Lhu, Lwu, Sb, Sh, Sw, Sd, Addi, Slti, Sltiu, Xori, Ori, Andi, Slli, Srli, Srai, Add, Sll, Slt, Sltu, Xor, Srl, Or, And, Sub, Sra, Mul, Mulh, Mulhsu, Mulhu, Div, Divu, Rem, Remu, Addiw, Slliw, Srliw, Sraiw, Addw, Sllw, Srlw, Subw, Sraw, Mulw, Divw, Divuw, Remw, Remuw, Ecall, Ebreak}
use Rattle.rv_table.specs.Words.{modulo, signed, word, sum, difference, product, upper, upper_half, is_less, flag, shifted_left, shifted_right, shifted_right_signed, quotient, quotient_unsigned, remainder, remainder_unsigned}

-- at registers x and address pc
abbrev pub row : (ℕ → ℕ) → ℕ → Instr → Effect
-- "Integer Register-Immediate Instructions": upper immediates
row x pc (Lui rd imm) = Set rd (upper imm)
row x pc (Auipc rd imm) = Set rd (sum pc (upper imm))
-- "Unconditional Jumps"
row x pc (Jal rd imm) = Jump rd (sum pc 4) (sum pc (modulo 64 imm))
row x pc (Jalr rd rs1 imm) = Jump rd (sum pc 4) (sum (x rs1) (modulo 64 imm) / 2 * 2)
-- "Conditional Branches"
row x pc (Beq rs1 rs2 imm) = Branch (x rs1 == x rs2) (sum pc (modulo 64 imm))
row x pc (Bne rs1 rs2 imm) = Branch (not (x rs1 == x rs2)) (sum pc (modulo 64 imm))
row x pc (Blt rs1 rs2 imm) = Branch (is_less (x rs1) (x rs2)) (sum pc (modulo 64 imm))
row x pc (Bge rs1 rs2 imm) = Branch (not (is_less (x rs1) (x rs2))) (sum pc (modulo 64 imm))
row x pc (Bltu rs1 rs2 imm) = Branch (nat_lt (x rs1) (x rs2)) (sum pc (modulo 64 imm))
row x pc (Bgeu rs1 rs2 imm) = Branch (not (nat_lt (x rs1) (x rs2))) (sum pc (modulo 64 imm))
-- "Load and Store Instructions"
row x pc (Lb rd rs1 imm) = Load rd (sum (x rs1) (modulo 64 imm)) 1 true
row x pc (Lh rd rs1 imm) = Load rd (sum (x rs1) (modulo 64 imm)) 2 true
row x pc (Lw rd rs1 imm) = Load rd (sum (x rs1) (modulo 64 imm)) 4 true
row x pc (Ld rd rs1 imm) = Load rd (sum (x rs1) (modulo 64 imm)) 8 true
row x pc (Lbu rd rs1 imm) = Load rd (sum (x rs1) (modulo 64 imm)) 1 false
row x pc (Lhu rd rs1 imm) = Load rd (sum (x rs1) (modulo 64 imm)) 2 false
row x pc (Lwu rd rs1 imm) = Load rd (sum (x rs1) (modulo 64 imm)) 4 false
row x pc (Sb rs1 rs2 imm) = Store (sum (x rs1) (modulo 64 imm)) 1 (x rs2)
row x pc (Sh rs1 rs2 imm) = Store (sum (x rs1) (modulo 64 imm)) 2 (x rs2)
row x pc (Sw rs1 rs2 imm) = Store (sum (x rs1) (modulo 64 imm)) 4 (x rs2)
row x pc (Sd rs1 rs2 imm) = Store (sum (x rs1) (modulo 64 imm)) 8 (x rs2)
-- "Integer Register-Immediate Instructions"
row x pc (Addi rd rs1 imm) = Set rd (sum (x rs1) (modulo 64 imm))
row x pc (Slti rd rs1 imm) = Set rd (flag (is_less (x rs1) (modulo 64 imm)))
row x pc (Sltiu rd rs1 imm) = Set rd (flag (nat_lt (x rs1) (modulo 64 imm)))
row x pc (Xori rd rs1 imm) = Set rd (bit_xor (x rs1) (modulo 64 imm))
row x pc (Ori rd rs1 imm) = Set rd (bit_or (x rs1) (modulo 64 imm))
row x pc (Andi rd rs1 imm) = Set rd (bit_and (x rs1) (modulo 64 imm))
row x pc (Slli rd rs1 imm) = Set rd (shifted_left (x rs1) (modulo 6 imm))
row x pc (Srli rd rs1 imm) = Set rd (shifted_right (x rs1) (modulo 6 imm))
row x pc (Srai rd rs1 imm) = Set rd (shifted_right_signed 64 (x rs1) (modulo 6 imm))
-- "Integer Register-Register Operations"
row x pc (Add rd rs1 rs2) = Set rd (sum (x rs1) (x rs2))
row x pc (Sll rd rs1 rs2) = Set rd (shifted_left (x rs1) (x rs2 % 64))
row x pc (Slt rd rs1 rs2) = Set rd (flag (is_less (x rs1) (x rs2)))
row x pc (Sltu rd rs1 rs2) = Set rd (flag (nat_lt (x rs1) (x rs2)))
row x pc (Xor rd rs1 rs2) = Set rd (bit_xor (x rs1) (x rs2))
row x pc (Srl rd rs1 rs2) = Set rd (shifted_right (x rs1) (x rs2 % 64))
row x pc (Or rd rs1 rs2) = Set rd (bit_or (x rs1) (x rs2))
row x pc (And rd rs1 rs2) = Set rd (bit_and (x rs1) (x rs2))
row x pc (Sub rd rs1 rs2) = Set rd (difference (x rs1) (x rs2))
row x pc (Sra rd rs1 rs2) = Set rd (shifted_right_signed 64 (x rs1) (x rs2 % 64))
-- "Multiplication Operations" and "Division Operations"
row x pc (Mul rd rs1 rs2) = Set rd (product (x rs1) (x rs2))
row x pc (Mulh rd rs1 rs2) = Set rd (upper_half (signed 64 (x rs1) *ℤ signed 64 (x rs2)))
row x pc (Mulhsu rd rs1 rs2) = Set rd (upper_half (signed 64 (x rs1) *ℤ pos (x rs2)))
row x pc (Mulhu rd rs1 rs2) = Set rd (x rs1 * x rs2 / 2 ^ 64)
row x pc (Div rd rs1 rs2) = Set rd (quotient 64 (x rs1) (x rs2))
row x pc (Divu rd rs1 rs2) = Set rd (quotient_unsigned 64 (x rs1) (x rs2))
row x pc (Rem rd rs1 rs2) = Set rd (remainder 64 (x rs1) (x rs2))
row x pc (Remu rd rs1 rs2) = Set rd (remainder_unsigned 64 (x rs1) (x rs2))
-- RV64I, "Integer Register-Immediate Instructions"
row x pc (Addiw rd rs1 imm) = Set rd (word (sum (x rs1) (modulo 64 imm)))
row x pc (Slliw rd rs1 imm) = Set rd (word (shifted_left (x rs1) (modulo 5 imm)))
row x pc (Srliw rd rs1 imm) = Set rd (word (shifted_right (x rs1 % 2 ^ 32) (modulo 5 imm)))
row x pc (Sraiw rd rs1 imm) = Set rd (shifted_right_signed 32 (x rs1) (modulo 5 imm))
-- RV64I, "Integer Register-Register Operations"
row x pc (Addw rd rs1 rs2) = Set rd (word (sum (x rs1) (x rs2)))
row x pc (Sllw rd rs1 rs2) = Set rd (word (shifted_left (x rs1) (x rs2 % 32)))
row x pc (Srlw rd rs1 rs2) = Set rd (word (shifted_right (x rs1 % 2 ^ 32) (x rs2 % 32)))
row x pc (Subw rd rs1 rs2) = Set rd (word (difference (x rs1) (x rs2)))
row x pc (Sraw rd rs1 rs2) = Set rd (shifted_right_signed 32 (x rs1) (x rs2 % 32))
-- RV64M
row x pc (Mulw rd rs1 rs2) = Set rd (word (product (x rs1) (x rs2)))
row x pc (Divw rd rs1 rs2) = Set rd (quotient 32 (x rs1) (x rs2))
row x pc (Divuw rd rs1 rs2) = Set rd (quotient_unsigned 32 (x rs1) (x rs2))
row x pc (Remw rd rs1 rs2) = Set rd (remainder 32 (x rs1) (x rs2))
row x pc (Remuw rd rs1 rs2) = Set rd (remainder_unsigned 32 (x rs1) (x rs2))
-- "Environment Call and Breakpoints"
row x pc Ecall = Ask
row x pc Ebreak = Break
