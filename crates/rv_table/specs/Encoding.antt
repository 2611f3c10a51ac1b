-- The instruction formats of RISC-V ISA Volume I, "Base Instruction Formats" and "Immediate Encoding Variants".
use Rattle.std.specs.Prelude.{◌≡◌, ℕ, ◌+◌, ◌*◌, ◌/◌, ◌%◌, ◌<◌, ℤ, pos, negsuc, ◌≤ℤ◌}
use Rattle.rv_table.specs.declared.word_fields.Fields.{Fields}
use Rattle.rv_table.specs.Words.{modulo}

-- a format with what an instruction puts into its fields: first the numbers that name the instruction, then its operands
pub data Encoding : Type 0 where
  RType : (opcode funct3 funct7 rd rs1 rs2 : ℕ) → Encoding
  IType : (opcode funct3 rd rs1 : ℕ) (imm : ℤ) → Encoding
  -- an I format with a shift's amount of six bits, below the top six bits
  Shift : (opcode funct3 top rd rs1 : ℕ) (amount : ℤ) → Encoding
  -- an I format with a shift's amount of five bits, below funct7
  WordShift : (opcode funct3 funct7 rd rs1 : ℕ) (amount : ℤ) → Encoding
  SType : (opcode funct3 rs1 rs2 : ℕ) (imm : ℤ) → Encoding
  BType : (opcode funct3 rs1 rs2 : ℕ) (imm : ℤ) → Encoding
  UType : (opcode rd : ℕ) (imm : ℤ) → Encoding
  JType : (opcode rd : ℕ) (imm : ℤ) → Encoding

abbrev pub IsBetween : ℤ → ℤ → ℤ → Type 0
IsBetween low high imm = (low ≤ℤ imm) × (imm ≤ℤ high)

abbrev pub IsEven : ℤ → Type 0
IsEven imm = modulo 1 imm ≡ 0

-- the operands fit: registers are below 32, and an immediate is in the range of its format
abbrev pub Fits : Encoding → Type 0
Fits (RType _ _ _ rd rs1 rs2) = ((rd < 32) × (rs1 < 32)) × (rs2 < 32)
Fits (IType _ _ rd rs1 imm) = ((rd < 32) × (rs1 < 32)) × IsBetween (negsuc 2047) (pos 2047) imm
Fits (Shift _ _ _ rd rs1 amount) = ((rd < 32) × (rs1 < 32)) × IsBetween (pos 0) (pos 63) amount
Fits (WordShift _ _ _ rd rs1 amount) = ((rd < 32) × (rs1 < 32)) × IsBetween (pos 0) (pos 31) amount
Fits (SType _ _ rs1 rs2 imm) = ((rs1 < 32) × (rs2 < 32)) × IsBetween (negsuc 2047) (pos 2047) imm
Fits (BType _ _ rs1 rs2 imm) =
    ((rs1 < 32) × (rs2 < 32)) × (IsBetween (negsuc 4095) (pos 4094) imm × IsEven imm)
Fits (UType _ rd imm) = (rd < 32) × IsBetween (pos 0) (pos 1048575) imm
Fits (JType _ rd imm) = (rd < 32) × (IsBetween (negsuc 1048575) (pos 1048574) imm × IsEven imm)

abbrev pub fields : (opcode rd funct3 rs1 rs2 funct7 : ℕ) → Fields
fields opcode rd funct3 rs1 rs2 funct7 =
    record { opcode = opcode; rd = rd; funct3 = funct3; rs1 = rs1; rs2 = rs2; funct7 = funct7 }

-- the fields of a word whose bits from 12 on are the number v
abbrev pub with_upper : (opcode rd v : ℕ) → Fields
with_upper opcode rd v = fields opcode rd (v % 8) (v / 8 % 32) (v / 256 % 32) (v / 8192)

-- bits 20, 10 to 1, 11 and 19 to 12 of u, in that order
abbrev pub jump_order : ℕ → ℕ
jump_order u = u / 1048576 * 524288 + u / 2 % 1024 * 512 + u / 2048 % 2 * 256 + u / 4096 % 256

-- where each format puts its operands
abbrev pub fields_of : Encoding → Fields
fields_of (RType opcode funct3 funct7 rd rs1 rs2) = fields opcode rd funct3 rs1 rs2 funct7
fields_of (IType opcode funct3 rd rs1 imm) =
    fields opcode rd funct3 rs1 (modulo 12 imm % 32) (modulo 12 imm / 32)
fields_of (Shift opcode funct3 top rd rs1 amount) =
    fields opcode rd funct3 rs1 (modulo 6 amount % 32) (top * 2 + modulo 6 amount / 32)
fields_of (WordShift opcode funct3 funct7 rd rs1 amount) =
    fields opcode rd funct3 rs1 (modulo 5 amount) funct7
fields_of (SType opcode funct3 rs1 rs2 imm) =
    fields opcode (modulo 12 imm % 32) funct3 rs1 rs2 (modulo 12 imm / 32)
fields_of (BType opcode funct3 rs1 rs2 imm) =
    let u = modulo 13 imm in
    fields opcode (u / 2 % 16 * 2 + u / 2048 % 2) funct3 rs1 rs2 (u / 4096 * 64 + u / 32 % 64)
fields_of (UType opcode rd imm) = with_upper opcode rd (modulo 20 imm)
fields_of (JType opcode rd imm) = with_upper opcode rd (jump_order (modulo 21 imm))

-- each field has as many bits as it is wide
pub record InRange (f : Fields) : Type 0 where
  pub opcode : f.opcode < 128
  pub rd : f.rd < 32
  pub funct3 : f.funct3 < 8
  pub rs1 : f.rs1 < 32
  pub rs2 : f.rs2 < 32
  pub funct7 : f.funct7 < 128

-- the word of these fields
abbrev pub packed : Fields → ℕ
packed f = f.opcode + f.rd * 128 + f.funct3 * 4096 + f.rs1 * 32768 + f.rs2 * 1048576 + f.funct7 * 33554432

-- the fields of a word
abbrev pub cut : ℕ → Fields
cut word =
    fields
    (word % 128)
    (word / 128 % 32)
    (word / 4096 % 8)
    (word / 32768 % 32)
    (word / 1048576 % 32)
    (word / 33554432)
