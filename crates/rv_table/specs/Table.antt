-- The instructions' encodings, one line a row: RISC-V ISA Volume I, "RV32/64G Instruction Set Listings".
use Rattle.std.specs.Prelude.{ℕ, pos}
use Rattle.rv_table.specs.declared.instruction.Instr.{Instr}
use Rattle.rv_table.specs.declared.instruction.Instr.TheVariants.{Lui, Auipc, Jal, Jalr, Beq, Bne, Blt, Bge, Bltu, Bgeu, Lb, Lh, Lw, Ld, Lbu, Lhu, Lwu, Sb, Sh, Sw, Sd, Addi, Slti, Sltiu, Xori, Ori, Andi, Slli, Srli, Srai, Add, Sll, Slt, Sltu, Xor, Srl, Or, And, Sub, Sra, Mul, Mulh, Mulhsu, Mulhu, Div, Divu, Rem, Remu, Addiw, Slliw, Srliw, Sraiw, Addw, Sllw, Srlw, Subw, Sraw, Mulw, Divw, Divuw, Remw, Remuw, Ecall, Ebreak}
use Rattle.rv_table.specs.Encoding.{Encoding, RType, IType, Shift, WordShift, SType, BType, UType, JType, Fits, fields_of, packed}

abbrev pub encoding_of : Instr → Encoding
encoding_of (Lui rd imm) = UType 0b0110111 rd imm
encoding_of (Auipc rd imm) = UType 0b0010111 rd imm
encoding_of (Jal rd imm) = JType 0b1101111 rd imm
encoding_of (Jalr rd rs1 imm) = IType 0b1100111 0b000 rd rs1 imm
encoding_of (Beq rs1 rs2 imm) = BType 0b1100011 0b000 rs1 rs2 imm
encoding_of (Bne rs1 rs2 imm) = BType 0b1100011 0b001 rs1 rs2 imm
encoding_of (Blt rs1 rs2 imm) = BType 0b1100011 0b100 rs1 rs2 imm
encoding_of (Bge rs1 rs2 imm) = BType 0b1100011 0b101 rs1 rs2 imm
encoding_of (Bltu rs1 rs2 imm) = BType 0b1100011 0b110 rs1 rs2 imm
encoding_of (Bgeu rs1 rs2 imm) = BType 0b1100011 0b111 rs1 rs2 imm
encoding_of (Lb rd rs1 imm) = IType 0b0000011 0b000 rd rs1 imm
encoding_of (Lh rd rs1 imm) = IType 0b0000011 0b001 rd rs1 imm
encoding_of (Lw rd rs1 imm) = IType 0b0000011 0b010 rd rs1 imm
encoding_of (Ld rd rs1 imm) = IType 0b0000011 0b011 rd rs1 imm
encoding_of (Lbu rd rs1 imm) = IType 0b0000011 0b100 rd rs1 imm
encoding_of (Lhu rd rs1 imm) = IType 0b0000011 0b101 rd rs1 imm
encoding_of (Lwu rd rs1 imm) = IType 0b0000011 0b110 rd rs1 imm
encoding_of (Sb rs1 rs2 imm) = SType 0b0100011 0b000 rs1 rs2 imm
encoding_of (Sh rs1 rs2 imm) = SType 0b0100011 0b001 rs1 rs2 imm
encoding_of (Sw rs1 rs2 imm) = SType 0b0100011 0b010 rs1 rs2 imm
encoding_of (Sd rs1 rs2 imm) = SType 0b0100011 0b011 rs1 rs2 imm
encoding_of (Addi rd rs1 imm) = IType 0b0010011 0b000 rd rs1 imm
encoding_of (Slti rd rs1 imm) = IType 0b0010011 0b010 rd rs1 imm
encoding_of (Sltiu rd rs1 imm) = IType 0b0010011 0b011 rd rs1 imm
encoding_of (Xori rd rs1 imm) = IType 0b0010011 0b100 rd rs1 imm
encoding_of (Ori rd rs1 imm) = IType 0b0010011 0b110 rd rs1 imm
encoding_of (Andi rd rs1 imm) = IType 0b0010011 0b111 rd rs1 imm
encoding_of (Slli rd rs1 imm) = Shift 0b0010011 0b001 0b000000 rd rs1 imm
encoding_of (Srli rd rs1 imm) = Shift 0b0010011 0b101 0b000000 rd rs1 imm
encoding_of (Srai rd rs1 imm) = Shift 0b0010011 0b101 0b010000 rd rs1 imm
encoding_of (Add rd rs1 rs2) = RType 0b0110011 0b000 0b0000000 rd rs1 rs2
encoding_of (Sll rd rs1 rs2) = RType 0b0110011 0b001 0b0000000 rd rs1 rs2
encoding_of (Slt rd rs1 rs2) = RType 0b0110011 0b010 0b0000000 rd rs1 rs2
encoding_of (Sltu rd rs1 rs2) = RType 0b0110011 0b011 0b0000000 rd rs1 rs2
encoding_of (Xor rd rs1 rs2) = RType 0b0110011 0b100 0b0000000 rd rs1 rs2
encoding_of (Srl rd rs1 rs2) = RType 0b0110011 0b101 0b0000000 rd rs1 rs2
encoding_of (Or rd rs1 rs2) = RType 0b0110011 0b110 0b0000000 rd rs1 rs2
encoding_of (And rd rs1 rs2) = RType 0b0110011 0b111 0b0000000 rd rs1 rs2
encoding_of (Sub rd rs1 rs2) = RType 0b0110011 0b000 0b0100000 rd rs1 rs2
encoding_of (Sra rd rs1 rs2) = RType 0b0110011 0b101 0b0100000 rd rs1 rs2
encoding_of (Mul rd rs1 rs2) = RType 0b0110011 0b000 0b0000001 rd rs1 rs2
encoding_of (Mulh rd rs1 rs2) = RType 0b0110011 0b001 0b0000001 rd rs1 rs2
encoding_of (Mulhsu rd rs1 rs2) = RType 0b0110011 0b010 0b0000001 rd rs1 rs2
encoding_of (Mulhu rd rs1 rs2) = RType 0b0110011 0b011 0b0000001 rd rs1 rs2
encoding_of (Div rd rs1 rs2) = RType 0b0110011 0b100 0b0000001 rd rs1 rs2
encoding_of (Divu rd rs1 rs2) = RType 0b0110011 0b101 0b0000001 rd rs1 rs2
encoding_of (Rem rd rs1 rs2) = RType 0b0110011 0b110 0b0000001 rd rs1 rs2
encoding_of (Remu rd rs1 rs2) = RType 0b0110011 0b111 0b0000001 rd rs1 rs2
encoding_of (Addiw rd rs1 imm) = IType 0b0011011 0b000 rd rs1 imm
encoding_of (Slliw rd rs1 imm) = WordShift 0b0011011 0b001 0b0000000 rd rs1 imm
encoding_of (Srliw rd rs1 imm) = WordShift 0b0011011 0b101 0b0000000 rd rs1 imm
encoding_of (Sraiw rd rs1 imm) = WordShift 0b0011011 0b101 0b0100000 rd rs1 imm
encoding_of (Addw rd rs1 rs2) = RType 0b0111011 0b000 0b0000000 rd rs1 rs2
encoding_of (Sllw rd rs1 rs2) = RType 0b0111011 0b001 0b0000000 rd rs1 rs2
encoding_of (Srlw rd rs1 rs2) = RType 0b0111011 0b101 0b0000000 rd rs1 rs2
encoding_of (Subw rd rs1 rs2) = RType 0b0111011 0b000 0b0100000 rd rs1 rs2
encoding_of (Sraw rd rs1 rs2) = RType 0b0111011 0b101 0b0100000 rd rs1 rs2
encoding_of (Mulw rd rs1 rs2) = RType 0b0111011 0b000 0b0000001 rd rs1 rs2
encoding_of (Divw rd rs1 rs2) = RType 0b0111011 0b100 0b0000001 rd rs1 rs2
encoding_of (Divuw rd rs1 rs2) = RType 0b0111011 0b101 0b0000001 rd rs1 rs2
encoding_of (Remw rd rs1 rs2) = RType 0b0111011 0b110 0b0000001 rd rs1 rs2
encoding_of (Remuw rd rs1 rs2) = RType 0b0111011 0b111 0b0000001 rd rs1 rs2
encoding_of Ecall = IType 0b1110011 0b000 0 0 (pos 0)
encoding_of Ebreak = IType 0b1110011 0b000 0 0 (pos 1)

-- every operand fits its field
abbrev pub IsValid : Instr → Type 0
IsValid i = Fits (encoding_of i)

-- the instruction's word
abbrev pub word_of : Instr → ℕ
word_of i = packed (fields_of (encoding_of i))
