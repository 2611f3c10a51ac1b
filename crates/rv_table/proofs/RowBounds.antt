-- Every value that a row gives has 64 bits, and what it writes is a register.
use Rattle.std.proofs.Common.{ℕ, ◌*◌, ◌/◌, ◌%◌, ◌<◌, ◌≤◌, ◌^◌, arith, lit<, rules}
use Rattle.std.specs.Prelude.{Bool, true, false, cond, ◌==◌}
use Rattle.std.proofs.Math.Nat.{mod-lt, div-le_self, lt_of_le_of_lt, le_of_lt, mul-le-mul_left}
use Rattle.std.proofs.Math.Pow.{pow_pos}
use Rattle.std.proofs.lemmas.Nat.{or_lt, xor_lt, and_le_l}
use Rattle.rv_table.specs.declared.instruction.Instr.{Instr}
use Rattle.rv_table.specs.declared.instruction.Instr.TheVariants.{Lui, Auipc, Jal, Jalr, Beq, Bne, Blt, Bge, Bltu, Bgeu, Lb, Lh, Lw, Ld, Lbu, Lhu, Lwu, Sb, Sh, Sw, Sd, Addi, Slti, Sltiu, Xori, Ori, Andi, Slli, Srli, Srai, Add, Sll, Slt, Sltu, Xor, Srl, Or, And, Sub, Sra, Mul, Mulh, Mulhsu, Mulhu, Div, Divu, Rem, Remu, Addiw, Slliw, Srliw, Sraiw, Addw, Sllw, Srlw, Subw, Sraw, Mulw, Divw, Divuw, Remw, Remuw, Ecall, Ebreak}
use Rattle.rv_table.specs.Bounds.{ValuesFit, HasASize, WritesARegister}
use Rattle.rv_table.specs.Row.{row}
use Rattle.rv_table.specs.Table.{IsValid}
use Rattle.rv_table.specs.Words.{flag, signed, quotient, quotient_unsigned, remainder, remainder_unsigned}
use Rattle.rv_table.proofs.Immediates.{modulo-lt}

below_64 : (n : ℕ) → n % 2 ^ 64 < 2 ^ 64
below_64 n = mod-lt n (pow_pos 64)

flag-lt : (b : Bool) → flag b < 2 ^ 64
flag-lt true = lit< tt
flag-lt false = lit< tt

either-lt : (b : Bool) (m n : ℕ) → m < 2 ^ 64 → n < 2 ^ 64 → cond b m n < 2 ^ 64
either-lt true m n h k = h
either-lt false m n h k = k

halved-le : (n : ℕ) → n / 2 * 2 ≤ n
halved-le n = omega arith

high-lt : (a b : ℕ) → a < 2 ^ 64 → b < 2 ^ 64 → a * b / 2 ^ 64 < 2 ^ 64
high-lt a b ha hb =
    let p : a * b ≤ a * 18446744073709551616 = mul-le-mul_left a (le_of_lt hb) in
    omega arith

quotient-lt : (w a b : ℕ) → quotient w a b < 2 ^ 64
quotient-lt w a b = either-lt (b % 2 ^ w == 0) _ _ (lit< tt) (modulo-lt 64 (signed w _))

quotient_unsigned-lt : (w a b : ℕ) → quotient_unsigned w a b < 2 ^ 64
quotient_unsigned-lt w a b = either-lt (b % 2 ^ w == 0) _ _ (lit< tt) (modulo-lt 64 (signed w _))

remainder-lt : (w a b : ℕ) → remainder w a b < 2 ^ 64
remainder-lt w a b = either-lt (b % 2 ^ w == 0) _ _ (modulo-lt 64 (signed w _)) (modulo-lt 64 (signed w _))

remainder_unsigned-lt : (w a b : ℕ) → remainder_unsigned w a b < 2 ^ 64
remainder_unsigned-lt w a b = either-lt (b % 2 ^ w == 0) _ _ (modulo-lt 64 (signed w _)) (modulo-lt 64 (signed w _))

pub row_values_fit : (x : ℕ → ℕ) (pc : ℕ) (i : Instr) → ((k : ℕ) → x k < 2 ^ 64) → ValuesFit (row x pc i)
row_values_fit x pc (Lui rd imm) fits = modulo-lt 64 _
row_values_fit x pc (Auipc rd imm) fits = below_64 _
row_values_fit x pc (Jal rd imm) fits = (below_64 _, below_64 _)
row_values_fit x pc (Jalr rd rs1 imm) fits = (below_64 _, lt_of_le_of_lt (halved-le _) (below_64 _))
row_values_fit x pc (Beq rs1 rs2 imm) fits = below_64 _
row_values_fit x pc (Bne rs1 rs2 imm) fits = below_64 _
row_values_fit x pc (Blt rs1 rs2 imm) fits = below_64 _
row_values_fit x pc (Bge rs1 rs2 imm) fits = below_64 _
row_values_fit x pc (Bltu rs1 rs2 imm) fits = below_64 _
row_values_fit x pc (Bgeu rs1 rs2 imm) fits = below_64 _
row_values_fit x pc (Lb rd rs1 imm) fits = below_64 _
row_values_fit x pc (Lh rd rs1 imm) fits = below_64 _
row_values_fit x pc (Lw rd rs1 imm) fits = below_64 _
row_values_fit x pc (Ld rd rs1 imm) fits = below_64 _
row_values_fit x pc (Lbu rd rs1 imm) fits = below_64 _
row_values_fit x pc (Lhu rd rs1 imm) fits = below_64 _
row_values_fit x pc (Lwu rd rs1 imm) fits = below_64 _
row_values_fit x pc (Sb rs1 rs2 imm) fits = (below_64 _, fits rs2)
row_values_fit x pc (Sh rs1 rs2 imm) fits = (below_64 _, fits rs2)
row_values_fit x pc (Sw rs1 rs2 imm) fits = (below_64 _, fits rs2)
row_values_fit x pc (Sd rs1 rs2 imm) fits = (below_64 _, fits rs2)
row_values_fit x pc (Addi rd rs1 imm) fits = below_64 _
row_values_fit x pc (Slti rd rs1 imm) fits = flag-lt _
row_values_fit x pc (Sltiu rd rs1 imm) fits = flag-lt _
row_values_fit x pc (Xori rd rs1 imm) fits = xor_lt 64 _ _ (fits rs1) (modulo-lt 64 imm)
row_values_fit x pc (Ori rd rs1 imm) fits = or_lt 64 _ _ (fits rs1) (modulo-lt 64 imm)
row_values_fit x pc (Andi rd rs1 imm) fits = lt_of_le_of_lt (and_le_l _ _) (fits rs1)
row_values_fit x pc (Slli rd rs1 imm) fits = below_64 _
row_values_fit x pc (Srli rd rs1 imm) fits = lt_of_le_of_lt (div-le_self _ _) (fits rs1)
row_values_fit x pc (Srai rd rs1 imm) fits = modulo-lt 64 _
row_values_fit x pc (Add rd rs1 rs2) fits = below_64 _
row_values_fit x pc (Sll rd rs1 rs2) fits = below_64 _
row_values_fit x pc (Slt rd rs1 rs2) fits = flag-lt _
row_values_fit x pc (Sltu rd rs1 rs2) fits = flag-lt _
row_values_fit x pc (Xor rd rs1 rs2) fits = xor_lt 64 _ _ (fits rs1) (fits rs2)
row_values_fit x pc (Srl rd rs1 rs2) fits = lt_of_le_of_lt (div-le_self _ _) (fits rs1)
row_values_fit x pc (Or rd rs1 rs2) fits = or_lt 64 _ _ (fits rs1) (fits rs2)
row_values_fit x pc (And rd rs1 rs2) fits = lt_of_le_of_lt (and_le_l _ _) (fits rs1)
row_values_fit x pc (Sub rd rs1 rs2) fits = below_64 _
row_values_fit x pc (Sra rd rs1 rs2) fits = modulo-lt 64 _
row_values_fit x pc (Mul rd rs1 rs2) fits = below_64 _
row_values_fit x pc (Mulh rd rs1 rs2) fits = modulo-lt 64 _
row_values_fit x pc (Mulhsu rd rs1 rs2) fits = modulo-lt 64 _
row_values_fit x pc (Mulhu rd rs1 rs2) fits = high-lt _ _ (fits rs1) (fits rs2)
row_values_fit x pc (Div rd rs1 rs2) fits = quotient-lt 64 (x rs1) (x rs2)
row_values_fit x pc (Divu rd rs1 rs2) fits = quotient_unsigned-lt 64 (x rs1) (x rs2)
row_values_fit x pc (Rem rd rs1 rs2) fits = remainder-lt 64 (x rs1) (x rs2)
row_values_fit x pc (Remu rd rs1 rs2) fits = remainder_unsigned-lt 64 (x rs1) (x rs2)
row_values_fit x pc (Addiw rd rs1 imm) fits = modulo-lt 64 _
row_values_fit x pc (Slliw rd rs1 imm) fits = modulo-lt 64 _
row_values_fit x pc (Srliw rd rs1 imm) fits = modulo-lt 64 _
row_values_fit x pc (Sraiw rd rs1 imm) fits = modulo-lt 64 _
row_values_fit x pc (Addw rd rs1 rs2) fits = modulo-lt 64 _
row_values_fit x pc (Sllw rd rs1 rs2) fits = modulo-lt 64 _
row_values_fit x pc (Srlw rd rs1 rs2) fits = modulo-lt 64 _
row_values_fit x pc (Subw rd rs1 rs2) fits = modulo-lt 64 _
row_values_fit x pc (Sraw rd rs1 rs2) fits = modulo-lt 64 _
row_values_fit x pc (Mulw rd rs1 rs2) fits = modulo-lt 64 _
row_values_fit x pc (Divw rd rs1 rs2) fits = quotient-lt 32 (x rs1) (x rs2)
row_values_fit x pc (Divuw rd rs1 rs2) fits = quotient_unsigned-lt 32 (x rs1) (x rs2)
row_values_fit x pc (Remw rd rs1 rs2) fits = remainder-lt 32 (x rs1) (x rs2)
row_values_fit x pc (Remuw rd rs1 rs2) fits = remainder_unsigned-lt 32 (x rs1) (x rs2)
row_values_fit x pc Ecall fits = tt
row_values_fit x pc Ebreak fits = tt

pub row_writes_a_register : (x : ℕ → ℕ) (pc : ℕ) (i : Instr) → IsValid i → WritesARegister (row x pc i)
row_writes_a_register x pc (Lui rd imm) h = h.0
row_writes_a_register x pc (Auipc rd imm) h = h.0
row_writes_a_register x pc (Jal rd imm) h = h.0
row_writes_a_register x pc (Jalr rd rs1 imm) h = h.0.0
row_writes_a_register x pc (Beq rs1 rs2 imm) h = tt
row_writes_a_register x pc (Bne rs1 rs2 imm) h = tt
row_writes_a_register x pc (Blt rs1 rs2 imm) h = tt
row_writes_a_register x pc (Bge rs1 rs2 imm) h = tt
row_writes_a_register x pc (Bltu rs1 rs2 imm) h = tt
row_writes_a_register x pc (Bgeu rs1 rs2 imm) h = tt
row_writes_a_register x pc (Lb rd rs1 imm) h = h.0.0
row_writes_a_register x pc (Lh rd rs1 imm) h = h.0.0
row_writes_a_register x pc (Lw rd rs1 imm) h = h.0.0
row_writes_a_register x pc (Ld rd rs1 imm) h = h.0.0
row_writes_a_register x pc (Lbu rd rs1 imm) h = h.0.0
row_writes_a_register x pc (Lhu rd rs1 imm) h = h.0.0
row_writes_a_register x pc (Lwu rd rs1 imm) h = h.0.0
row_writes_a_register x pc (Sb rs1 rs2 imm) h = tt
row_writes_a_register x pc (Sh rs1 rs2 imm) h = tt
row_writes_a_register x pc (Sw rs1 rs2 imm) h = tt
row_writes_a_register x pc (Sd rs1 rs2 imm) h = tt
row_writes_a_register x pc (Addi rd rs1 imm) h = h.0.0
row_writes_a_register x pc (Slti rd rs1 imm) h = h.0.0
row_writes_a_register x pc (Sltiu rd rs1 imm) h = h.0.0
row_writes_a_register x pc (Xori rd rs1 imm) h = h.0.0
row_writes_a_register x pc (Ori rd rs1 imm) h = h.0.0
row_writes_a_register x pc (Andi rd rs1 imm) h = h.0.0
row_writes_a_register x pc (Slli rd rs1 imm) h = h.0.0
row_writes_a_register x pc (Srli rd rs1 imm) h = h.0.0
row_writes_a_register x pc (Srai rd rs1 imm) h = h.0.0
row_writes_a_register x pc (Add rd rs1 rs2) h = h.0.0
row_writes_a_register x pc (Sll rd rs1 rs2) h = h.0.0
row_writes_a_register x pc (Slt rd rs1 rs2) h = h.0.0
row_writes_a_register x pc (Sltu rd rs1 rs2) h = h.0.0
row_writes_a_register x pc (Xor rd rs1 rs2) h = h.0.0
row_writes_a_register x pc (Srl rd rs1 rs2) h = h.0.0
row_writes_a_register x pc (Or rd rs1 rs2) h = h.0.0
row_writes_a_register x pc (And rd rs1 rs2) h = h.0.0
row_writes_a_register x pc (Sub rd rs1 rs2) h = h.0.0
row_writes_a_register x pc (Sra rd rs1 rs2) h = h.0.0
row_writes_a_register x pc (Mul rd rs1 rs2) h = h.0.0
row_writes_a_register x pc (Mulh rd rs1 rs2) h = h.0.0
row_writes_a_register x pc (Mulhsu rd rs1 rs2) h = h.0.0
row_writes_a_register x pc (Mulhu rd rs1 rs2) h = h.0.0
row_writes_a_register x pc (Div rd rs1 rs2) h = h.0.0
row_writes_a_register x pc (Divu rd rs1 rs2) h = h.0.0
row_writes_a_register x pc (Rem rd rs1 rs2) h = h.0.0
row_writes_a_register x pc (Remu rd rs1 rs2) h = h.0.0
row_writes_a_register x pc (Addiw rd rs1 imm) h = h.0.0
row_writes_a_register x pc (Slliw rd rs1 imm) h = h.0.0
row_writes_a_register x pc (Srliw rd rs1 imm) h = h.0.0
row_writes_a_register x pc (Sraiw rd rs1 imm) h = h.0.0
row_writes_a_register x pc (Addw rd rs1 rs2) h = h.0.0
row_writes_a_register x pc (Sllw rd rs1 rs2) h = h.0.0
row_writes_a_register x pc (Srlw rd rs1 rs2) h = h.0.0
row_writes_a_register x pc (Subw rd rs1 rs2) h = h.0.0
row_writes_a_register x pc (Sraw rd rs1 rs2) h = h.0.0
row_writes_a_register x pc (Mulw rd rs1 rs2) h = h.0.0
row_writes_a_register x pc (Divw rd rs1 rs2) h = h.0.0
row_writes_a_register x pc (Divuw rd rs1 rs2) h = h.0.0
row_writes_a_register x pc (Remw rd rs1 rs2) h = h.0.0
row_writes_a_register x pc (Remuw rd rs1 rs2) h = h.0.0
row_writes_a_register x pc Ecall h = tt
row_writes_a_register x pc Ebreak h = tt

pub row_has_a_size : (x : ℕ → ℕ) (pc : ℕ) (i : Instr) → HasASize (row x pc i)
row_has_a_size x pc (Lui rd imm) = tt
row_has_a_size x pc (Auipc rd imm) = tt
row_has_a_size x pc (Jal rd imm) = tt
row_has_a_size x pc (Jalr rd rs1 imm) = tt
row_has_a_size x pc (Beq rs1 rs2 imm) = tt
row_has_a_size x pc (Bne rs1 rs2 imm) = tt
row_has_a_size x pc (Blt rs1 rs2 imm) = tt
row_has_a_size x pc (Bge rs1 rs2 imm) = tt
row_has_a_size x pc (Bltu rs1 rs2 imm) = tt
row_has_a_size x pc (Bgeu rs1 rs2 imm) = tt
row_has_a_size x pc (Lb rd rs1 imm) = search rules
row_has_a_size x pc (Lh rd rs1 imm) = search rules
row_has_a_size x pc (Lw rd rs1 imm) = search rules
row_has_a_size x pc (Ld rd rs1 imm) = search rules
row_has_a_size x pc (Lbu rd rs1 imm) = search rules
row_has_a_size x pc (Lhu rd rs1 imm) = search rules
row_has_a_size x pc (Lwu rd rs1 imm) = search rules
row_has_a_size x pc (Sb rs1 rs2 imm) = search rules
row_has_a_size x pc (Sh rs1 rs2 imm) = search rules
row_has_a_size x pc (Sw rs1 rs2 imm) = search rules
row_has_a_size x pc (Sd rs1 rs2 imm) = search rules
row_has_a_size x pc (Addi rd rs1 imm) = tt
row_has_a_size x pc (Slti rd rs1 imm) = tt
row_has_a_size x pc (Sltiu rd rs1 imm) = tt
row_has_a_size x pc (Xori rd rs1 imm) = tt
row_has_a_size x pc (Ori rd rs1 imm) = tt
row_has_a_size x pc (Andi rd rs1 imm) = tt
row_has_a_size x pc (Slli rd rs1 imm) = tt
row_has_a_size x pc (Srli rd rs1 imm) = tt
row_has_a_size x pc (Srai rd rs1 imm) = tt
row_has_a_size x pc (Add rd rs1 rs2) = tt
row_has_a_size x pc (Sll rd rs1 rs2) = tt
row_has_a_size x pc (Slt rd rs1 rs2) = tt
row_has_a_size x pc (Sltu rd rs1 rs2) = tt
row_has_a_size x pc (Xor rd rs1 rs2) = tt
row_has_a_size x pc (Srl rd rs1 rs2) = tt
row_has_a_size x pc (Or rd rs1 rs2) = tt
row_has_a_size x pc (And rd rs1 rs2) = tt
row_has_a_size x pc (Sub rd rs1 rs2) = tt
row_has_a_size x pc (Sra rd rs1 rs2) = tt
row_has_a_size x pc (Mul rd rs1 rs2) = tt
row_has_a_size x pc (Mulh rd rs1 rs2) = tt
row_has_a_size x pc (Mulhsu rd rs1 rs2) = tt
row_has_a_size x pc (Mulhu rd rs1 rs2) = tt
row_has_a_size x pc (Div rd rs1 rs2) = tt
row_has_a_size x pc (Divu rd rs1 rs2) = tt
row_has_a_size x pc (Rem rd rs1 rs2) = tt
row_has_a_size x pc (Remu rd rs1 rs2) = tt
row_has_a_size x pc (Addiw rd rs1 imm) = tt
row_has_a_size x pc (Slliw rd rs1 imm) = tt
row_has_a_size x pc (Srliw rd rs1 imm) = tt
row_has_a_size x pc (Sraiw rd rs1 imm) = tt
row_has_a_size x pc (Addw rd rs1 rs2) = tt
row_has_a_size x pc (Sllw rd rs1 rs2) = tt
row_has_a_size x pc (Srlw rd rs1 rs2) = tt
row_has_a_size x pc (Subw rd rs1 rs2) = tt
row_has_a_size x pc (Sraw rd rs1 rs2) = tt
row_has_a_size x pc (Mulw rd rs1 rs2) = tt
row_has_a_size x pc (Divw rd rs1 rs2) = tt
row_has_a_size x pc (Divuw rd rs1 rs2) = tt
row_has_a_size x pc (Remw rd rs1 rs2) = tt
row_has_a_size x pc (Remuw rd rs1 rs2) = tt
row_has_a_size x pc Ecall = tt
row_has_a_size x pc Ebreak = tt
