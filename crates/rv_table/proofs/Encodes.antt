-- The word of a valid instruction is read as that instruction.
use Rattle.std.proofs.Common.{◌≡◌, ℕ, ◌+◌, ◌-◌, ◌*◌, ◌/◌, ◌%◌, ◌<◌, ◌^◌, ℤ, pos, negsuc, refl, sym, ap, ◌∙◌, arith, lit<}
use Rattle.std.specs.Prelude.{nat_lt, Bool, true, ◌&&◌, Some}
use Rattle.std.proofs.lemmas.Int.{ints}
use Rattle.std.proofs.lemmas.Bool.Decides.{nat_tests}
use Rattle.rv_table.specs.declared.instruction.Instr.{Instr}
use Rattle.rv_table.specs.declared.instruction.Instr.TheVariants.{Lui, Auipc, Jal, Jalr, Beq, Bne, Blt, Bge, Bltu, Bgeu, Lb, Lh, Lw, Ld, Lbu, Lhu, Lwu, Sb, Sh, Sw, Sd, Addi, Slti, Sltiu, Xori, Ori, Andi, Slli, Srli, Srai, Add, Sll, Slt, Sltu, Xor, Srl, Or, And, Sub, Sra, Mul, Mulh, Mulhsu, Mulhu, Div, Divu, Rem, Remu, Addiw, Slliw, Srliw, Sraiw, Addw, Sllw, Srlw, Subw, Sraw, Mulw, Divw, Divuw, Remw, Remuw, Ecall, Ebreak}
use Rattle.rv_table.specs.Decoding.{by_opcode, opcodes, instr_of, b_bits, u_bits, j_bits}
use Rattle.rv_table.specs.Encoding.{Encoding, RType, IType, Shift, WordShift, SType, BType, UType, JType, Fits, IsBetween, IsEven, InRange, fields_of, jump_order}
use Rattle.rv_table.specs.Table.{encoding_of, IsValid, word_of}
use Rattle.rv_table.specs.Words.{modulo, signed}
use Rattle.rv_table.proofs.Cutting.{cut-packed, packed-lt}
use Rattle.rv_table.proofs.Immediates.{modulo-lt, signed-modulo, modulo-pos, modulo-parity_13, modulo-parity_21}
use Rattle.rv_table.proofs.Orders.{b_parts, upper_parts, j_parts}

-- the numbers that name an instruction fit their fields
abbrev names_fit : ℕ → ℕ → ℕ → Bool
names_fit opcode funct3 funct7 = nat_lt opcode 128 && nat_lt funct3 8 && nat_lt funct7 128

abbrev is_named : Encoding → Bool
is_named (RType opcode funct3 funct7 _ _ _) = names_fit opcode funct3 funct7
is_named (IType opcode funct3 _ _ _) = names_fit opcode funct3 0
is_named (Shift opcode funct3 top _ _ _) = names_fit opcode funct3 (top * 2 + 1)
is_named (WordShift opcode funct3 funct7 _ _ _) = names_fit opcode funct3 funct7
is_named (SType opcode funct3 _ _ _) = names_fit opcode funct3 0
is_named (BType opcode funct3 _ _ _) = names_fit opcode funct3 0
is_named (UType opcode _ _) = names_fit opcode 0 0
is_named (JType opcode _ _) = names_fit opcode 0 0

in_range : (e : Encoding) → is_named e ≡ true → Fits e → InRange (fields_of e)
in_range (RType opcode funct3 funct7 rd rs1 rs2) n f = record {
  opcode = grind (arith, nat_tests);
  rd = omega arith;
  funct3 = grind (arith, nat_tests);
  rs1 = omega arith;
  rs2 = omega arith;
  funct7 = grind (arith, nat_tests);
}
in_range (IType opcode funct3 rd rs1 imm) n f = let u = modulo-lt 12 imm in record {
  opcode = grind (arith, nat_tests);
  rd = omega arith;
  funct3 = grind (arith, nat_tests);
  rs1 = omega arith;
  rs2 = omega arith;
  funct7 = omega arith;
}
in_range (Shift opcode funct3 top rd rs1 amount) n f = let u = modulo-lt 6 amount in record {
  opcode = grind (arith, nat_tests);
  rd = omega arith;
  funct3 = grind (arith, nat_tests);
  rs1 = omega arith;
  rs2 = omega arith;
  funct7 = grind (arith, nat_tests);
}
in_range (WordShift opcode funct3 funct7 rd rs1 amount) n f = let u = modulo-lt 5 amount in record {
  opcode = grind (arith, nat_tests);
  rd = omega arith;
  funct3 = grind (arith, nat_tests);
  rs1 = omega arith;
  rs2 = omega arith;
  funct7 = grind (arith, nat_tests);
}
in_range (SType opcode funct3 rs1 rs2 imm) n f = let u = modulo-lt 12 imm in record {
  opcode = grind (arith, nat_tests);
  rd = omega arith;
  funct3 = grind (arith, nat_tests);
  rs1 = omega arith;
  rs2 = omega arith;
  funct7 = omega arith;
}
in_range (BType opcode funct3 rs1 rs2 imm) n f = let u = modulo-lt 13 imm in record {
  opcode = grind (arith, nat_tests);
  rd = omega arith;
  funct3 = grind (arith, nat_tests);
  rs1 = omega arith;
  rs2 = omega arith;
  funct7 = omega arith;
}
in_range (UType opcode rd imm) n f = let u = modulo-lt 20 imm in record {
  opcode = grind (arith, nat_tests);
  rd = omega arith;
  funct3 = omega arith;
  rs1 = omega arith;
  rs2 = omega arith;
  funct7 = omega arith;
}
in_range (JType opcode rd imm) n f = let u = modulo-lt 21 imm in record {
  opcode = grind (arith, nat_tests);
  rd = omega arith;
  funct3 = omega arith;
  rs1 = omega arith;
  rs2 = omega arith;
  funct7 = omega arith;
}

-- the numbers of every row fit
is_named_encoding_of : (i : Instr) → is_named (encoding_of i) ≡ true
is_named_encoding_of (Lui rd imm) = refl
is_named_encoding_of (Auipc rd imm) = refl
is_named_encoding_of (Jal rd imm) = refl
is_named_encoding_of (Jalr rd rs1 imm) = refl
is_named_encoding_of (Beq rs1 rs2 imm) = refl
is_named_encoding_of (Bne rs1 rs2 imm) = refl
is_named_encoding_of (Blt rs1 rs2 imm) = refl
is_named_encoding_of (Bge rs1 rs2 imm) = refl
is_named_encoding_of (Bltu rs1 rs2 imm) = refl
is_named_encoding_of (Bgeu rs1 rs2 imm) = refl
is_named_encoding_of (Lb rd rs1 imm) = refl
is_named_encoding_of (Lh rd rs1 imm) = refl
is_named_encoding_of (Lw rd rs1 imm) = refl
is_named_encoding_of (Ld rd rs1 imm) = refl
is_named_encoding_of (Lbu rd rs1 imm) = refl
is_named_encoding_of (Lhu rd rs1 imm) = refl
is_named_encoding_of (Lwu rd rs1 imm) = refl
is_named_encoding_of (Sb rs1 rs2 imm) = refl
is_named_encoding_of (Sh rs1 rs2 imm) = refl
is_named_encoding_of (Sw rs1 rs2 imm) = refl
is_named_encoding_of (Sd rs1 rs2 imm) = refl
is_named_encoding_of (Addi rd rs1 imm) = refl
is_named_encoding_of (Slti rd rs1 imm) = refl
is_named_encoding_of (Sltiu rd rs1 imm) = refl
is_named_encoding_of (Xori rd rs1 imm) = refl
is_named_encoding_of (Ori rd rs1 imm) = refl
is_named_encoding_of (Andi rd rs1 imm) = refl
is_named_encoding_of (Slli rd rs1 imm) = refl
is_named_encoding_of (Srli rd rs1 imm) = refl
is_named_encoding_of (Srai rd rs1 imm) = refl
is_named_encoding_of (Add rd rs1 rs2) = refl
is_named_encoding_of (Sll rd rs1 rs2) = refl
is_named_encoding_of (Slt rd rs1 rs2) = refl
is_named_encoding_of (Sltu rd rs1 rs2) = refl
is_named_encoding_of (Xor rd rs1 rs2) = refl
is_named_encoding_of (Srl rd rs1 rs2) = refl
is_named_encoding_of (Or rd rs1 rs2) = refl
is_named_encoding_of (And rd rs1 rs2) = refl
is_named_encoding_of (Sub rd rs1 rs2) = refl
is_named_encoding_of (Sra rd rs1 rs2) = refl
is_named_encoding_of (Mul rd rs1 rs2) = refl
is_named_encoding_of (Mulh rd rs1 rs2) = refl
is_named_encoding_of (Mulhsu rd rs1 rs2) = refl
is_named_encoding_of (Mulhu rd rs1 rs2) = refl
is_named_encoding_of (Div rd rs1 rs2) = refl
is_named_encoding_of (Divu rd rs1 rs2) = refl
is_named_encoding_of (Rem rd rs1 rs2) = refl
is_named_encoding_of (Remu rd rs1 rs2) = refl
is_named_encoding_of (Addiw rd rs1 imm) = refl
is_named_encoding_of (Slliw rd rs1 imm) = refl
is_named_encoding_of (Srliw rd rs1 imm) = refl
is_named_encoding_of (Sraiw rd rs1 imm) = refl
is_named_encoding_of (Addw rd rs1 rs2) = refl
is_named_encoding_of (Sllw rd rs1 rs2) = refl
is_named_encoding_of (Srlw rd rs1 rs2) = refl
is_named_encoding_of (Subw rd rs1 rs2) = refl
is_named_encoding_of (Sraw rd rs1 rs2) = refl
is_named_encoding_of (Mulw rd rs1 rs2) = refl
is_named_encoding_of (Divw rd rs1 rs2) = refl
is_named_encoding_of (Divuw rd rs1 rs2) = refl
is_named_encoding_of (Remw rd rs1 rs2) = refl
is_named_encoding_of (Remuw rd rs1 rs2) = refl
is_named_encoding_of Ecall = refl
is_named_encoding_of Ebreak = refl

-- each format's immediate is read back
back_12 : (imm : ℤ) → IsBetween (negsuc 2047) (pos 2047) imm →
    signed 12 (modulo 12 imm / 32 * 32 + modulo 12 imm % 32) ≡ imm
back_12 imm h =
    let e : modulo 12 imm / 32 * 32 + modulo 12 imm % 32 ≡ modulo 12 imm = omega arith in
    rw e (signed-modulo 11 imm h)

back_b : (imm : ℤ) → IsBetween (negsuc 4095) (pos 4094) imm × IsEven imm →
    signed 13 (b_bits (fields_of (BType 0 0 0 0 imm))) ≡ imm
back_b imm h =
    let e = b_parts (modulo 13 imm) (modulo-lt 13 imm) (modulo-parity_13 imm ∙ h.1) in
    let wide : IsBetween (negsuc (2 ^ 12 - 1)) (pos (2 ^ 12 - 1)) imm = (h.0.0, omega (arith, ints, h.0.1)) in
    rw e (signed-modulo 12 imm wide)

back_u : (imm : ℤ) → IsBetween (pos 0) (pos 1048575) imm → pos (u_bits (fields_of (UType 0 0 imm))) ≡ imm
back_u imm h =
    let u = modulo-lt 20 imm in
    let e : u_bits (fields_of (UType 0 0 imm)) ≡ modulo 20 imm = omega arith in
    rw e (sym (modulo-pos 20 1048575 imm (lit< tt) h))

back_j : (imm : ℤ) → IsBetween (negsuc 1048575) (pos 1048574) imm × IsEven imm →
    signed 21 (j_bits (fields_of (JType 0 0 imm))) ≡ imm
back_j imm h =
    let e = upper_parts (jump_order (modulo 21 imm)) in
    let d = j_parts (modulo 21 imm) (modulo-lt 21 imm) (modulo-parity_21 imm ∙ h.1) in
    let wide : IsBetween (negsuc (2 ^ 20 - 1)) (pos (2 ^ 20 - 1)) imm = (h.0.0, omega (arith, ints, h.0.1)) in
    rw (e, d) (signed-modulo 20 imm wide)

back_shift : (top : ℕ) (amount : ℤ) → IsBetween (pos 0) (pos 63) amount →
    pos ((top * 2 + modulo 6 amount / 32) % 2 * 32 + modulo 6 amount % 32) ≡ amount
back_shift top amount h =
    let u = modulo-lt 6 amount in
    let e : (top * 2 + modulo 6 amount / 32) % 2 * 32 + modulo 6 amount % 32 ≡ modulo 6 amount = omega arith in
    rw e (sym (modulo-pos 6 63 amount (lit< tt) h))

-- the top six bits stand over a shift's amount
top_part : (top : ℕ) (amount : ℤ) → (top * 2 + modulo 6 amount / 32) / 2 ≡ top
top_part top amount = let u = modulo-lt 6 amount in omega arith

back_word_shift : (amount : ℤ) → IsBetween (pos 0) (pos 31) amount → pos (modulo 5 amount) ≡ amount
back_word_shift amount h = sym (modulo-pos 5 31 amount (lit< tt) h)

-- the fields of every row are read as its instruction
by_opcode-fields_of : (i : Instr) → IsValid i → by_opcode opcodes (fields_of (encoding_of i)) ≡ Some i
by_opcode-fields_of (Lui rd imm) h = ap (λ z. Some (Lui rd z)) (back_u imm h.1)
by_opcode-fields_of (Auipc rd imm) h = ap (λ z. Some (Auipc rd z)) (back_u imm h.1)
by_opcode-fields_of (Jal rd imm) h = ap (λ z. Some (Jal rd z)) (back_j imm h.1)
by_opcode-fields_of (Jalr rd rs1 imm) h = ap (λ z. Some (Jalr rd rs1 z)) (back_12 imm h.1)
by_opcode-fields_of (Beq rs1 rs2 imm) h = ap (λ z. Some (Beq rs1 rs2 z)) (back_b imm h.1)
by_opcode-fields_of (Bne rs1 rs2 imm) h = ap (λ z. Some (Bne rs1 rs2 z)) (back_b imm h.1)
by_opcode-fields_of (Blt rs1 rs2 imm) h = ap (λ z. Some (Blt rs1 rs2 z)) (back_b imm h.1)
by_opcode-fields_of (Bge rs1 rs2 imm) h = ap (λ z. Some (Bge rs1 rs2 z)) (back_b imm h.1)
by_opcode-fields_of (Bltu rs1 rs2 imm) h = ap (λ z. Some (Bltu rs1 rs2 z)) (back_b imm h.1)
by_opcode-fields_of (Bgeu rs1 rs2 imm) h = ap (λ z. Some (Bgeu rs1 rs2 z)) (back_b imm h.1)
by_opcode-fields_of (Lb rd rs1 imm) h = ap (λ z. Some (Lb rd rs1 z)) (back_12 imm h.1)
by_opcode-fields_of (Lh rd rs1 imm) h = ap (λ z. Some (Lh rd rs1 z)) (back_12 imm h.1)
by_opcode-fields_of (Lw rd rs1 imm) h = ap (λ z. Some (Lw rd rs1 z)) (back_12 imm h.1)
by_opcode-fields_of (Ld rd rs1 imm) h = ap (λ z. Some (Ld rd rs1 z)) (back_12 imm h.1)
by_opcode-fields_of (Lbu rd rs1 imm) h = ap (λ z. Some (Lbu rd rs1 z)) (back_12 imm h.1)
by_opcode-fields_of (Lhu rd rs1 imm) h = ap (λ z. Some (Lhu rd rs1 z)) (back_12 imm h.1)
by_opcode-fields_of (Lwu rd rs1 imm) h = ap (λ z. Some (Lwu rd rs1 z)) (back_12 imm h.1)
by_opcode-fields_of (Sb rs1 rs2 imm) h = ap (λ z. Some (Sb rs1 rs2 z)) (back_12 imm h.1)
by_opcode-fields_of (Sh rs1 rs2 imm) h = ap (λ z. Some (Sh rs1 rs2 z)) (back_12 imm h.1)
by_opcode-fields_of (Sw rs1 rs2 imm) h = ap (λ z. Some (Sw rs1 rs2 z)) (back_12 imm h.1)
by_opcode-fields_of (Sd rs1 rs2 imm) h = ap (λ z. Some (Sd rs1 rs2 z)) (back_12 imm h.1)
by_opcode-fields_of (Addi rd rs1 imm) h = ap (λ z. Some (Addi rd rs1 z)) (back_12 imm h.1)
by_opcode-fields_of (Slti rd rs1 imm) h = ap (λ z. Some (Slti rd rs1 z)) (back_12 imm h.1)
by_opcode-fields_of (Sltiu rd rs1 imm) h = ap (λ z. Some (Sltiu rd rs1 z)) (back_12 imm h.1)
by_opcode-fields_of (Xori rd rs1 imm) h = ap (λ z. Some (Xori rd rs1 z)) (back_12 imm h.1)
by_opcode-fields_of (Ori rd rs1 imm) h = ap (λ z. Some (Ori rd rs1 z)) (back_12 imm h.1)
by_opcode-fields_of (Andi rd rs1 imm) h = ap (λ z. Some (Andi rd rs1 z)) (back_12 imm h.1)
by_opcode-fields_of (Slli rd rs1 imm) h = rw (top_part 0b000000 imm) (ap (λ z. Some (Slli rd rs1 z)) (back_shift 0b000000 imm h.1))
by_opcode-fields_of (Srli rd rs1 imm) h = rw (top_part 0b000000 imm) (ap (λ z. Some (Srli rd rs1 z)) (back_shift 0b000000 imm h.1))
by_opcode-fields_of (Srai rd rs1 imm) h = rw (top_part 0b010000 imm) (ap (λ z. Some (Srai rd rs1 z)) (back_shift 0b010000 imm h.1))
by_opcode-fields_of (Add rd rs1 rs2) h = refl
by_opcode-fields_of (Sll rd rs1 rs2) h = refl
by_opcode-fields_of (Slt rd rs1 rs2) h = refl
by_opcode-fields_of (Sltu rd rs1 rs2) h = refl
by_opcode-fields_of (Xor rd rs1 rs2) h = refl
by_opcode-fields_of (Srl rd rs1 rs2) h = refl
by_opcode-fields_of (Or rd rs1 rs2) h = refl
by_opcode-fields_of (And rd rs1 rs2) h = refl
by_opcode-fields_of (Sub rd rs1 rs2) h = refl
by_opcode-fields_of (Sra rd rs1 rs2) h = refl
by_opcode-fields_of (Mul rd rs1 rs2) h = refl
by_opcode-fields_of (Mulh rd rs1 rs2) h = refl
by_opcode-fields_of (Mulhsu rd rs1 rs2) h = refl
by_opcode-fields_of (Mulhu rd rs1 rs2) h = refl
by_opcode-fields_of (Div rd rs1 rs2) h = refl
by_opcode-fields_of (Divu rd rs1 rs2) h = refl
by_opcode-fields_of (Rem rd rs1 rs2) h = refl
by_opcode-fields_of (Remu rd rs1 rs2) h = refl
by_opcode-fields_of (Addiw rd rs1 imm) h = ap (λ z. Some (Addiw rd rs1 z)) (back_12 imm h.1)
by_opcode-fields_of (Slliw rd rs1 imm) h = ap (λ z. Some (Slliw rd rs1 z)) (back_word_shift imm h.1)
by_opcode-fields_of (Srliw rd rs1 imm) h = ap (λ z. Some (Srliw rd rs1 z)) (back_word_shift imm h.1)
by_opcode-fields_of (Sraiw rd rs1 imm) h = ap (λ z. Some (Sraiw rd rs1 z)) (back_word_shift imm h.1)
by_opcode-fields_of (Addw rd rs1 rs2) h = refl
by_opcode-fields_of (Sllw rd rs1 rs2) h = refl
by_opcode-fields_of (Srlw rd rs1 rs2) h = refl
by_opcode-fields_of (Subw rd rs1 rs2) h = refl
by_opcode-fields_of (Sraw rd rs1 rs2) h = refl
by_opcode-fields_of (Mulw rd rs1 rs2) h = refl
by_opcode-fields_of (Divw rd rs1 rs2) h = refl
by_opcode-fields_of (Divuw rd rs1 rs2) h = refl
by_opcode-fields_of (Remw rd rs1 rs2) h = refl
by_opcode-fields_of (Remuw rd rs1 rs2) h = refl
by_opcode-fields_of Ecall h = refl
by_opcode-fields_of Ebreak h = refl

pub instr_of-word_of : (i : Instr) → IsValid i → instr_of (word_of i) ≡ Some i
instr_of-word_of i h =
    ap (by_opcode opcodes) (cut-packed (fields_of (encoding_of i)) (in_range (encoding_of i) (is_named_encoding_of i) h))
    ∙ by_opcode-fields_of i h

pub word_of-lt : (i : Instr) → IsValid i → word_of i < 2 ^ 32
word_of-lt i h = packed-lt (fields_of (encoding_of i)) (in_range (encoding_of i) (is_named_encoding_of i) h)
