-- The instruction of a word: the table of `Table` read the other way, by opcode, funct3 and funct7.
use Rattle.std.specs.Prelude.{ℕ, ◌+◌, ◌*◌, ◌/◌, ◌%◌, ℤ, pos, ◌==◌, true, false, List, [], ◌∷◌, Option, Some, None}
use Rattle.rv_table.specs.declared.instruction.Instr.{Instr}
use Rattle.rv_table.specs.declared.instruction.Instr.TheVariants.{Lui, Auipc, Jal, Jalr, Beq, Bne, Blt, Bge, Bltu, Bgeu, Lb, Lh, Lw, Ld, Lbu, Lhu, Lwu, Sb, Sh, Sw, Sd, Addi, Slti, Sltiu, Xori, Ori, Andi, Slli, Srli, Srai, Add, Sll, Slt, Sltu, Xor, Srl, Or, And, Sub, Sra, Mul, Mulh, Mulhsu, Mulhu, Div, Divu, Rem, Remu, Addiw, Slliw, Srliw, Sraiw, Addw, Sllw, Srlw, Subw, Sraw, Mulw, Divw, Divuw, Remw, Remuw, Ecall, Ebreak}
use Rattle.rv_table.specs.declared.word_fields.Fields.{Fields}
use Rattle.rv_table.specs.Encoding.{cut, packed}
use Rattle.rv_table.specs.Words.{signed}

-- the bits of each format's immediate, from its fields
abbrev pub i_bits : Fields → ℕ
i_bits f = f.funct7 * 32 + f.rs2

abbrev pub s_bits : Fields → ℕ
s_bits f = f.funct7 * 32 + f.rd

abbrev pub b_bits : Fields → ℕ
b_bits f = f.funct7 / 64 * 4096 + f.rd % 2 * 2048 + f.funct7 % 64 * 32 + f.rd / 2 * 2

-- bits 31 to 12 of the word
abbrev pub u_bits : Fields → ℕ
u_bits f = f.funct7 * 8192 + f.rs2 * 256 + f.rs1 * 8 + f.funct3

abbrev pub j_bits : Fields → ℕ
j_bits f = u_bits f / 524288 * 1048576 + u_bits f % 256 * 4096 + u_bits f / 256 % 2 * 2048 + u_bits f / 512 % 1024 * 2

abbrev pub shift_bits : Fields → ℕ
shift_bits f = f.funct7 % 2 * 32 + f.rs2

-- what is read from the fields, if they are an instruction's
abbrev pub Reading : Type 0
Reading = Fields → Option Instr

abbrev pub r_type : (ℕ → ℕ → ℕ → Instr) → Reading
r_type make f = Some (make f.rd f.rs1 f.rs2)

abbrev pub i_type : (ℕ → ℕ → ℤ → Instr) → Reading
i_type make f = Some (make f.rd f.rs1 (signed 12 (i_bits f)))

abbrev pub shift : (ℕ → ℕ → ℤ → Instr) → Reading
shift make f = Some (make f.rd f.rs1 (pos (shift_bits f)))

abbrev pub word_shift : (ℕ → ℕ → ℤ → Instr) → Reading
word_shift make f = Some (make f.rd f.rs1 (pos f.rs2))

abbrev pub s_type : (ℕ → ℕ → ℤ → Instr) → Reading
s_type make f = Some (make f.rs1 f.rs2 (signed 12 (s_bits f)))

abbrev pub b_type : (ℕ → ℕ → ℤ → Instr) → Reading
b_type make f = Some (make f.rs1 f.rs2 (signed 13 (b_bits f)))

abbrev pub u_type : (ℕ → ℤ → Instr) → Reading
u_type make f = Some (make f.rd (pos (u_bits f)))

abbrev pub j_type : (ℕ → ℤ → Instr) → Reading
j_type make f = Some (make f.rd (signed 21 (j_bits f)))

abbrev pub plain : Instr → Reading
plain i f = Some i

-- what stands at a number of a table
pub record Entry : Type 0 where
  pub number : ℕ
  pub reading : Reading

abbrev pub at : ℕ → Reading → Entry
at number reading = record { number = number; reading = reading }

-- the entry at the number; none elsewhere
abbrev pub chosen : List Entry → ℕ → Reading
chosen [] number f = None
chosen (e ∷ es) number f = elim (number == e.number) [ true ↦ e.reading f | false ↦ chosen es number f ]

abbrev pub by_opcode : List Entry → Reading
by_opcode es f = chosen es f.opcode f

abbrev pub by_funct3 : List Entry → Reading
by_funct3 es f = chosen es f.funct3 f

abbrev pub by_funct7 : List Entry → Reading
by_funct7 es f = chosen es f.funct7 f

-- by the top six bits of the word
abbrev pub by_top : List Entry → Reading
by_top es f = chosen es (f.funct7 / 2) f

-- by the whole word
abbrev pub by_word : List Entry → Reading
by_word es f = chosen es (packed f) f

-- ---- opcode 1100111, by funct3
abbrev pub indirect_jumps : List Entry
indirect_jumps =
    at 0b000 (i_type Jalr)
    ∷ []

-- ---- opcode 1100011, by funct3
abbrev pub branches : List Entry
branches =
    at 0b000 (b_type Beq)
    ∷ at 0b001 (b_type Bne)
    ∷ at 0b100 (b_type Blt)
    ∷ at 0b101 (b_type Bge)
    ∷ at 0b110 (b_type Bltu)
    ∷ at 0b111 (b_type Bgeu)
    ∷ []

-- ---- opcode 0000011, by funct3
abbrev pub loads : List Entry
loads =
    at 0b000 (i_type Lb)
    ∷ at 0b001 (i_type Lh)
    ∷ at 0b010 (i_type Lw)
    ∷ at 0b011 (i_type Ld)
    ∷ at 0b100 (i_type Lbu)
    ∷ at 0b101 (i_type Lhu)
    ∷ at 0b110 (i_type Lwu)
    ∷ []

-- ---- opcode 0100011, by funct3
abbrev pub stores : List Entry
stores =
    at 0b000 (s_type Sb)
    ∷ at 0b001 (s_type Sh)
    ∷ at 0b010 (s_type Sw)
    ∷ at 0b011 (s_type Sd)
    ∷ []

-- ---- opcode 0010011, by funct3, and its shifts by the top six bits
abbrev pub left_shifts : List Entry
left_shifts =
    at 0b000000 (shift Slli)
    ∷ []

abbrev pub right_shifts : List Entry
right_shifts =
    at 0b000000 (shift Srli)
    ∷ at 0b010000 (shift Srai)
    ∷ []

abbrev pub immediate_operations : List Entry
immediate_operations =
    at 0b000 (i_type Addi)
    ∷ at 0b001 (by_top left_shifts)
    ∷ at 0b010 (i_type Slti)
    ∷ at 0b011 (i_type Sltiu)
    ∷ at 0b100 (i_type Xori)
    ∷ at 0b101 (by_top right_shifts)
    ∷ at 0b110 (i_type Ori)
    ∷ at 0b111 (i_type Andi)
    ∷ []

-- ---- opcode 0110011, by funct7 and then by funct3
abbrev pub base_operations : List Entry
base_operations =
    at 0b000 (r_type Add)
    ∷ at 0b001 (r_type Sll)
    ∷ at 0b010 (r_type Slt)
    ∷ at 0b011 (r_type Sltu)
    ∷ at 0b100 (r_type Xor)
    ∷ at 0b101 (r_type Srl)
    ∷ at 0b110 (r_type Or)
    ∷ at 0b111 (r_type And)
    ∷ []

abbrev pub alternate_operations : List Entry
alternate_operations =
    at 0b000 (r_type Sub)
    ∷ at 0b101 (r_type Sra)
    ∷ []

abbrev pub multiplications : List Entry
multiplications =
    at 0b000 (r_type Mul)
    ∷ at 0b001 (r_type Mulh)
    ∷ at 0b010 (r_type Mulhsu)
    ∷ at 0b011 (r_type Mulhu)
    ∷ at 0b100 (r_type Div)
    ∷ at 0b101 (r_type Divu)
    ∷ at 0b110 (r_type Rem)
    ∷ at 0b111 (r_type Remu)
    ∷ []

abbrev pub register_operations : List Entry
register_operations =
    at 0b0000000 (by_funct3 base_operations)
    ∷ at 0b0100000 (by_funct3 alternate_operations)
    ∷ at 0b0000001 (by_funct3 multiplications)
    ∷ []

-- ---- opcode 0011011, by funct3, and its shifts by funct7
abbrev pub left_word_shifts : List Entry
left_word_shifts =
    at 0b0000000 (word_shift Slliw)
    ∷ []

abbrev pub right_word_shifts : List Entry
right_word_shifts =
    at 0b0000000 (word_shift Srliw)
    ∷ at 0b0100000 (word_shift Sraiw)
    ∷ []

abbrev pub immediate_word_operations : List Entry
immediate_word_operations =
    at 0b000 (i_type Addiw)
    ∷ at 0b001 (by_funct7 left_word_shifts)
    ∷ at 0b101 (by_funct7 right_word_shifts)
    ∷ []

-- ---- opcode 0111011, by funct7 and then by funct3
abbrev pub base_word_operations : List Entry
base_word_operations =
    at 0b000 (r_type Addw)
    ∷ at 0b001 (r_type Sllw)
    ∷ at 0b101 (r_type Srlw)
    ∷ []

abbrev pub alternate_word_operations : List Entry
alternate_word_operations =
    at 0b000 (r_type Subw)
    ∷ at 0b101 (r_type Sraw)
    ∷ []

abbrev pub word_multiplications : List Entry
word_multiplications =
    at 0b000 (r_type Mulw)
    ∷ at 0b100 (r_type Divw)
    ∷ at 0b101 (r_type Divuw)
    ∷ at 0b110 (r_type Remw)
    ∷ at 0b111 (r_type Remuw)
    ∷ []

abbrev pub register_word_operations : List Entry
register_word_operations =
    at 0b0000000 (by_funct3 base_word_operations)
    ∷ at 0b0100000 (by_funct3 alternate_word_operations)
    ∷ at 0b0000001 (by_funct3 word_multiplications)
    ∷ []

-- ---- opcode 1110011, by the whole word
abbrev pub environment_calls : List Entry
environment_calls =
    at 0x00000073 (plain Ecall)
    ∷ at 0x00100073 (plain Ebreak)
    ∷ []

-- ---- every opcode
abbrev pub opcodes : List Entry
opcodes =
    at 0b0110111 (u_type Lui)
    ∷ at 0b0010111 (u_type Auipc)
    ∷ at 0b1101111 (j_type Jal)
    ∷ at 0b1100111 (by_funct3 indirect_jumps)
    ∷ at 0b1100011 (by_funct3 branches)
    ∷ at 0b0000011 (by_funct3 loads)
    ∷ at 0b0100011 (by_funct3 stores)
    ∷ at 0b0010011 (by_funct3 immediate_operations)
    ∷ at 0b0110011 (by_funct7 register_operations)
    ∷ at 0b0011011 (by_funct3 immediate_word_operations)
    ∷ at 0b0111011 (by_funct7 register_word_operations)
    ∷ at 0b1110011 (by_word environment_calls)
    ∷ []

-- the instruction of a word of 32 bits; none where no row has the word
abbrev pub instr_of : ℕ → Option Instr
instr_of word = by_opcode opcodes (cut word)
