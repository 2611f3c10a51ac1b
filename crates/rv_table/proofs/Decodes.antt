-- A word is read as an instruction exactly where that is valid and this is its word.
use Rattle.std.proofs.Common.{◌≡◌, ℕ, suc, ◌+◌, ◌*◌, ◌/◌, ◌%◌, ◌<◌, ◌^◌, ℤ, pos, negsuc, refl, sym, ap, ◌∙◌, arith, lit<, eqb-true, rules}
use Rattle.std.specs.Prelude.{Bool, true, false, Option, Some, None, ◌↔◌, ◌≢◌, IsNone, List, [], ◌∷◌, ◌==◌}
use Rattle.std.proofs.lemmas.Int.{ints}
use Rattle.rv_table.specs.declared.word_fields.Fields.{Fields}
use Rattle.rv_table.specs.declared.instruction.Instr.{Instr}
use Rattle.rv_table.specs.declared.instruction.Instr.TheVariants.{Lui, Auipc, Jal, Jalr, Beq, Bne, Blt, Bge, Bltu, Bgeu, Lb, Lh, Lw, Ld, Lbu, Lhu, Lwu, Sb, Sh, Sw, Sd, Addi, Slti, Sltiu, Xori, Ori, Andi, Slli, Srli, Srai, Add, Sll, Slt, Sltu, Xor, Srl, Or, And, Sub, Sra, Mul, Mulh, Mulhsu, Mulhu, Div, Divu, Rem, Remu, Addiw, Slliw, Srliw, Sraiw, Addw, Sllw, Srlw, Subw, Sraw, Mulw, Divw, Divuw, Remw, Remuw, Ecall, Ebreak}
use Rattle.rv_table.specs.Decoding.{by_opcode, by_funct3, by_funct7, by_top, by_word, indirect_jumps, branches, loads, stores, left_shifts, right_shifts, immediate_operations, base_operations, alternate_operations, multiplications, register_operations, left_word_shifts, right_word_shifts, immediate_word_operations, base_word_operations, alternate_word_operations, word_multiplications, register_word_operations, environment_calls, opcodes, instr_of, Entry, chosen, r_type, i_type, shift, word_shift, s_type, b_type, u_type, j_type, plain, i_bits, s_bits, b_bits, u_bits, j_bits, shift_bits}
use Rattle.rv_table.specs.Encoding.{Encoding, RType, IType, Shift, WordShift, SType, BType, UType, JType, Fits, IsBetween, InRange, fields, fields_of, jump_order, packed, cut}
use Rattle.rv_table.specs.Table.{encoding_of, IsValid, word_of}
use Rattle.rv_table.specs.Words.{modulo, signed}
use Rattle.rv_table.proofs.Cutting.{cut-packed, packed-cut, in_range_cut}
use Rattle.rv_table.proofs.Immediates.{modulo-signed, signed_between, signed-parity_13, signed-parity_21}
use Rattle.rv_table.proofs.Orders.{j_order-lt, j_order-even, jump_order-j_order}
use Rattle.rv_table.proofs.Encodes.{instr_of-word_of}

-- what an instruction that was read from fields has to meet
record IsRead (f : Fields) (i : Instr) : Type 0 where
  valid : IsValid i
  same : fields_of (encoding_of i) ≡ f

-- the readings at a table's numbers, each under its number
abbrev Readings : List Entry → ℕ → Fields → Instr → Type 0
Readings [] number f i = Unit {0}
Readings (e ∷ es) number f i = (number ≡ e.number → e.reading f ≡ Some i → IsRead f i) × Readings es number f i

-- joins the readings of a list
infixr 20 ◌⨾◌
abbrev ◌⨾◌ : {A B : Type 0} → A → B → A × B
a ⨾ b = (a, b)

-- the first entry is read, or the others are
at_first : (t : Bool) (e : Entry) (es : List Entry) (number : ℕ) (f : Fields) (i : Instr) → (number == e.number) ≡ t →
    (number ≡ e.number → e.reading f ≡ Some i → IsRead f i) → (chosen es number f ≡ Some i → IsRead f i) →
    chosen (e ∷ es) number f ≡ Some i → IsRead f i
at_first true e es number f i t here later found = here (eqb-true _ _ t) (rw (t, chosen) at found)
at_first false e es number f i t here later found = later (rw (t, chosen) at found)

chosen_is_read : (es : List Entry) (number : ℕ) (f : Fields) (i : Instr) →
    Readings es number f i → chosen es number f ≡ Some i → IsRead f i
chosen_is_read [] number f i all found = cc
chosen_is_read (e ∷ es) number f i all found =
    at_first
    (number == e.number)
    e
    es
    number
    f
    i
    refl
    all.0
    (chosen_is_read es number f i all.1)
    found

-- fields with these parts are these fields
same_fields : (f : Fields) (opcode rd funct3 rs1 rs2 funct7 : ℕ) → f.opcode ≡ opcode → f.rd ≡ rd → f.funct3 ≡ funct3 →
    f.rs1 ≡ rs1 → f.rs2 ≡ rs2 → f.funct7 ≡ funct7 → fields opcode rd funct3 rs1 rs2 funct7 ≡ f
same_fields f opcode rd funct3 rs1 rs2 funct7 a b c d e g = rw (← a, ← b, ← c, ← d, ← e, ← g)

-- an even number that is at most an odd one is below it
even_between : (top bottom : ℕ) (z : ℤ) → IsBetween (negsuc bottom) (pos (suc top)) z → modulo 1 z ≡ 0 → top % 2 ≡ 0 →
    IsBetween (negsuc bottom) (pos top) z
even_between top bottom (pos n) b even t = (b.0, omega (arith, ints, b.1))
even_between top bottom (negsuc n) b even t = (b.0, omega (arith, ints))

module _ (f : Fields) (r : InRange f) (i : Instr) where
  -- a format's reading is an instruction whose encoding gives back the fields
  from_shape : (e : Encoding) → encoding_of i ≡ e → Fits e → fields_of e ≡ f → IsRead f i
  from_shape e shape fits same = record { valid = rw shape fits; same = rw shape same }

  r_read : (make : ℕ → ℕ → ℕ → Instr) (opcode funct3 funct7 : ℕ) →
      ((a b c : ℕ) → encoding_of (make a b c) ≡ RType opcode funct3 funct7 a b c) →
      f.opcode ≡ opcode → f.funct3 ≡ funct3 → f.funct7 ≡ funct7 → r_type make f ≡ Some i → IsRead f i
  r_read make opcode funct3 funct7 shape o t s found =
      let is : i ≡ make f.rd f.rs1 f.rs2 = cc in
      from_shape
      (RType opcode funct3 funct7 f.rd f.rs1 f.rs2)
      (rw is (shape f.rd f.rs1 f.rs2))
      ((r.rd, r.rs1), r.rs2)
      (same_fields f _ _ _ _ _ _ o refl t refl refl s)

  i_read : (make : ℕ → ℕ → ℤ → Instr) (opcode funct3 : ℕ) →
      ((a b : ℕ) (z : ℤ) → encoding_of (make a b z) ≡ IType opcode funct3 a b z) →
      f.opcode ≡ opcode → f.funct3 ≡ funct3 → i_type make f ≡ Some i → IsRead f i
  i_read make opcode funct3 shape o t found =
      let is : i ≡ make f.rd f.rs1 (signed 12 (i_bits f)) = cc in
      let u : modulo 12 (signed 12 (i_bits f)) ≡ f.funct7 * 32 + f.rs2 = modulo-signed 11 _ (omega arith) in
      let low : (f.funct7 * 32 + f.rs2) % 32 ≡ f.rs2 = omega arith in
      let high : (f.funct7 * 32 + f.rs2) / 32 ≡ f.funct7 = omega arith in
      from_shape
      (IType opcode funct3 f.rd f.rs1 (signed 12 (i_bits f)))
      (rw is (shape f.rd f.rs1 (signed 12 (i_bits f))))
      ((r.rd, r.rs1), signed_between 11 _)
      (rw (u, low, high) (same_fields f _ _ _ _ _ _ o refl t refl refl refl))

  shift_read : (make : ℕ → ℕ → ℤ → Instr) (opcode funct3 top : ℕ) →
      ((a b : ℕ) (z : ℤ) → encoding_of (make a b z) ≡ Shift opcode funct3 top a b z) →
      f.opcode ≡ opcode → f.funct3 ≡ funct3 → f.funct7 / 2 ≡ top → shift make f ≡ Some i → IsRead f i
  shift_read make opcode funct3 top shape o t s found =
      let is : i ≡ make f.rd f.rs1 (pos (shift_bits f)) = cc in
      let u : (shift_bits f) % 64 ≡ shift_bits f = omega arith in
      let low : (shift_bits f) % 32 ≡ f.rs2 = omega arith in
      let high : top * 2 + (shift_bits f) / 32 ≡ f.funct7 = omega arith in
      from_shape
      (Shift opcode funct3 top f.rd f.rs1 (pos (shift_bits f)))
      (rw is (shape f.rd f.rs1 _))
      ((r.rd, r.rs1), (omega (arith, ints), omega (arith, ints)))
      (rw (u, low, high) (same_fields f _ _ _ _ _ _ o refl t refl refl refl))

  u_read : (make : ℕ → ℤ → Instr) (opcode : ℕ) → ((a : ℕ) (z : ℤ) → encoding_of (make a z) ≡ UType opcode a z) →
      f.opcode ≡ opcode → u_type make f ≡ Some i → IsRead f i
  u_read make opcode shape o found =
      let is : i ≡ make f.rd (pos (u_bits f)) = cc in
      let u : u_bits f % 1048576 ≡ u_bits f = omega arith in
      let a : u_bits f % 8 ≡ f.funct3 = omega arith in
      let b : u_bits f / 8 % 32 ≡ f.rs1 = omega arith in
      let c : u_bits f / 256 % 32 ≡ f.rs2 = omega arith in
      let d : u_bits f / 8192 ≡ f.funct7 = omega arith in
      from_shape
      (UType opcode f.rd (pos (u_bits f)))
      (rw is (shape f.rd _))
      (r.rd, (omega (arith, ints), omega (arith, ints)))
      (rw (u, a, b, c, d) (same_fields f _ _ _ _ _ _ o refl refl refl refl refl))

  word_shift_read : (make : ℕ → ℕ → ℤ → Instr) (opcode funct3 funct7 : ℕ) →
      ((a b : ℕ) (z : ℤ) → encoding_of (make a b z) ≡ WordShift opcode funct3 funct7 a b z) →
      f.opcode ≡ opcode → f.funct3 ≡ funct3 → f.funct7 ≡ funct7 → word_shift make f ≡ Some i → IsRead f i
  word_shift_read make opcode funct3 funct7 shape o t s found =
      let is : i ≡ make f.rd f.rs1 (pos f.rs2) = cc in
      let u : f.rs2 % 32 ≡ f.rs2 = omega arith in
      from_shape
      (WordShift opcode funct3 funct7 f.rd f.rs1 (pos f.rs2))
      (rw is (shape f.rd f.rs1 _))
      ((r.rd, r.rs1), (omega (arith, ints), omega (arith, ints)))
      (rw u (same_fields f _ _ _ _ _ _ o refl t refl refl s))

  s_read : (make : ℕ → ℕ → ℤ → Instr) (opcode funct3 : ℕ) →
      ((a b : ℕ) (z : ℤ) → encoding_of (make a b z) ≡ SType opcode funct3 a b z) →
      f.opcode ≡ opcode → f.funct3 ≡ funct3 → s_type make f ≡ Some i → IsRead f i
  s_read make opcode funct3 shape o t found =
      let is : i ≡ make f.rs1 f.rs2 (signed 12 (s_bits f)) = cc in
      let u : modulo 12 (signed 12 (s_bits f)) ≡ s_bits f = modulo-signed 11 _ (omega arith) in
      let low : s_bits f % 32 ≡ f.rd = omega arith in
      let high : s_bits f / 32 ≡ f.funct7 = omega arith in
      from_shape
      (SType opcode funct3 f.rs1 f.rs2 (signed 12 (s_bits f)))
      (rw is (shape f.rs1 f.rs2 _))
      ((r.rs1, r.rs2), signed_between 11 _)
      (rw (u, low, high) (same_fields f _ _ _ _ _ _ o refl t refl refl refl))

  b_read : (make : ℕ → ℕ → ℤ → Instr) (opcode funct3 : ℕ) →
      ((a b : ℕ) (z : ℤ) → encoding_of (make a b z) ≡ BType opcode funct3 a b z) →
      f.opcode ≡ opcode → f.funct3 ≡ funct3 → b_type make f ≡ Some i → IsRead f i
  b_read make opcode funct3 shape o t found =
      let is : i ≡ make f.rs1 f.rs2 (signed 13 (b_bits f)) = cc in
      let u : modulo 13 (signed 13 (b_bits f)) ≡ b_bits f = modulo-signed 12 _ (omega arith) in
      let even : b_bits f % 2 ≡ 0 = omega arith in
      let low : b_bits f / 2 % 16 * 2 + b_bits f / 2048 % 2 ≡ f.rd = omega arith in
      let high : b_bits f / 4096 * 64 + b_bits f / 32 % 64 ≡ f.funct7 = omega arith in
      from_shape
      (BType opcode funct3 f.rs1 f.rs2 (signed 13 (b_bits f)))
      (rw is (shape f.rs1 f.rs2 _))
      ((r.rs1, r.rs2), (even_between 4094 4095 _ (signed_between 12 _) (signed-parity_13 _ ∙ even) refl, signed-parity_13 _ ∙ even))
      (rw (u, low, high) (same_fields f _ _ _ _ _ _ o refl t refl refl refl))

  j_read : (make : ℕ → ℤ → Instr) (opcode : ℕ) → ((a : ℕ) (z : ℤ) → encoding_of (make a z) ≡ JType opcode a z) →
      f.opcode ≡ opcode → j_type make f ≡ Some i → IsRead f i
  j_read make opcode shape o found =
      let is : i ≡ make f.rd (signed 21 (j_bits f)) = cc in
      let small : u_bits f < 2 ^ 20 = omega arith in
      let u : modulo 21 (signed 21 (j_bits f)) ≡ j_bits f = modulo-signed 20 _ (j_order-lt (u_bits f) small) in
      let even : j_bits f % 2 ≡ 0 = j_order-even (u_bits f) in
      let order : jump_order (j_bits f) ≡ u_bits f = jump_order-j_order (u_bits f) small in
      let a : u_bits f % 8 ≡ f.funct3 = omega arith in
      let b : u_bits f / 8 % 32 ≡ f.rs1 = omega arith in
      let c : u_bits f / 256 % 32 ≡ f.rs2 = omega arith in
      let d : u_bits f / 8192 ≡ f.funct7 = omega arith in
      from_shape
      (JType opcode f.rd (signed 21 (j_bits f)))
      (rw is (shape f.rd _))
      (r.rd, (even_between 1048574 1048575 _ (signed_between 20 _) (signed-parity_21 _ ∙ even) refl, signed-parity_21 _ ∙ even))
      (rw (u, order, a, b, c, d) (same_fields f _ _ _ _ _ _ o refl refl refl refl refl))

  -- ECALL and EBREAK are single words
  word_read : (whole : Instr) → IsValid whole → cut (word_of whole) ≡ fields_of (encoding_of whole) →
      packed f ≡ word_of whole → plain whole f ≡ Some i → IsRead f i
  word_read whole valid back e found =
      let is : i ≡ whole = cc in
      rw is record { valid = valid; same = sym back ∙ ap cut (sym e) ∙ cut-packed f r }

  -- ---- the tables
  indirect_jumps_read : f.opcode ≡ 0b1100111 → by_funct3 indirect_jumps f ≡ Some i → IsRead f i
  indirect_jumps_read o = chosen_is_read indirect_jumps f.funct3 f i
      (i_read Jalr 0b1100111 0b000 (λ a b z. refl) o
      ⨾ tt)

  branches_read : f.opcode ≡ 0b1100011 → by_funct3 branches f ≡ Some i → IsRead f i
  branches_read o = chosen_is_read branches f.funct3 f i
      (b_read Beq 0b1100011 0b000 (λ a b z. refl) o
      ⨾ b_read Bne 0b1100011 0b001 (λ a b z. refl) o
      ⨾ b_read Blt 0b1100011 0b100 (λ a b z. refl) o
      ⨾ b_read Bge 0b1100011 0b101 (λ a b z. refl) o
      ⨾ b_read Bltu 0b1100011 0b110 (λ a b z. refl) o
      ⨾ b_read Bgeu 0b1100011 0b111 (λ a b z. refl) o
      ⨾ tt)

  loads_read : f.opcode ≡ 0b0000011 → by_funct3 loads f ≡ Some i → IsRead f i
  loads_read o = chosen_is_read loads f.funct3 f i
      (i_read Lb 0b0000011 0b000 (λ a b z. refl) o
      ⨾ i_read Lh 0b0000011 0b001 (λ a b z. refl) o
      ⨾ i_read Lw 0b0000011 0b010 (λ a b z. refl) o
      ⨾ i_read Ld 0b0000011 0b011 (λ a b z. refl) o
      ⨾ i_read Lbu 0b0000011 0b100 (λ a b z. refl) o
      ⨾ i_read Lhu 0b0000011 0b101 (λ a b z. refl) o
      ⨾ i_read Lwu 0b0000011 0b110 (λ a b z. refl) o
      ⨾ tt)

  stores_read : f.opcode ≡ 0b0100011 → by_funct3 stores f ≡ Some i → IsRead f i
  stores_read o = chosen_is_read stores f.funct3 f i
      (s_read Sb 0b0100011 0b000 (λ a b z. refl) o
      ⨾ s_read Sh 0b0100011 0b001 (λ a b z. refl) o
      ⨾ s_read Sw 0b0100011 0b010 (λ a b z. refl) o
      ⨾ s_read Sd 0b0100011 0b011 (λ a b z. refl) o
      ⨾ tt)

  left_shifts_read : f.opcode ≡ 0b0010011 → f.funct3 ≡ 0b001 → by_top left_shifts f ≡ Some i → IsRead f i
  left_shifts_read o t = chosen_is_read left_shifts (f.funct7 / 2) f i
      (shift_read Slli 0b0010011 0b001 0b000000 (λ a b z. refl) o t
      ⨾ tt)

  right_shifts_read : f.opcode ≡ 0b0010011 → f.funct3 ≡ 0b101 → by_top right_shifts f ≡ Some i → IsRead f i
  right_shifts_read o t = chosen_is_read right_shifts (f.funct7 / 2) f i
      (shift_read Srli 0b0010011 0b101 0b000000 (λ a b z. refl) o t
      ⨾ shift_read Srai 0b0010011 0b101 0b010000 (λ a b z. refl) o t
      ⨾ tt)

  immediate_operations_read : f.opcode ≡ 0b0010011 → by_funct3 immediate_operations f ≡ Some i → IsRead f i
  immediate_operations_read o = chosen_is_read immediate_operations f.funct3 f i
      (i_read Addi 0b0010011 0b000 (λ a b z. refl) o
      ⨾ left_shifts_read o
      ⨾ i_read Slti 0b0010011 0b010 (λ a b z. refl) o
      ⨾ i_read Sltiu 0b0010011 0b011 (λ a b z. refl) o
      ⨾ i_read Xori 0b0010011 0b100 (λ a b z. refl) o
      ⨾ right_shifts_read o
      ⨾ i_read Ori 0b0010011 0b110 (λ a b z. refl) o
      ⨾ i_read Andi 0b0010011 0b111 (λ a b z. refl) o
      ⨾ tt)

  base_operations_read : f.opcode ≡ 0b0110011 → f.funct7 ≡ 0b0000000 → by_funct3 base_operations f ≡ Some i → IsRead f i
  base_operations_read o s = chosen_is_read base_operations f.funct3 f i
      ((λ t. r_read Add 0b0110011 0b000 0b0000000 (λ a b c. refl) o t s)
      ⨾ (λ t. r_read Sll 0b0110011 0b001 0b0000000 (λ a b c. refl) o t s)
      ⨾ (λ t. r_read Slt 0b0110011 0b010 0b0000000 (λ a b c. refl) o t s)
      ⨾ (λ t. r_read Sltu 0b0110011 0b011 0b0000000 (λ a b c. refl) o t s)
      ⨾ (λ t. r_read Xor 0b0110011 0b100 0b0000000 (λ a b c. refl) o t s)
      ⨾ (λ t. r_read Srl 0b0110011 0b101 0b0000000 (λ a b c. refl) o t s)
      ⨾ (λ t. r_read Or 0b0110011 0b110 0b0000000 (λ a b c. refl) o t s)
      ⨾ (λ t. r_read And 0b0110011 0b111 0b0000000 (λ a b c. refl) o t s)
      ⨾ tt)

  alternate_operations_read : f.opcode ≡ 0b0110011 → f.funct7 ≡ 0b0100000 → by_funct3 alternate_operations f ≡ Some i → IsRead f i
  alternate_operations_read o s = chosen_is_read alternate_operations f.funct3 f i
      ((λ t. r_read Sub 0b0110011 0b000 0b0100000 (λ a b c. refl) o t s)
      ⨾ (λ t. r_read Sra 0b0110011 0b101 0b0100000 (λ a b c. refl) o t s)
      ⨾ tt)

  multiplications_read : f.opcode ≡ 0b0110011 → f.funct7 ≡ 0b0000001 → by_funct3 multiplications f ≡ Some i → IsRead f i
  multiplications_read o s = chosen_is_read multiplications f.funct3 f i
      ((λ t. r_read Mul 0b0110011 0b000 0b0000001 (λ a b c. refl) o t s)
      ⨾ (λ t. r_read Mulh 0b0110011 0b001 0b0000001 (λ a b c. refl) o t s)
      ⨾ (λ t. r_read Mulhsu 0b0110011 0b010 0b0000001 (λ a b c. refl) o t s)
      ⨾ (λ t. r_read Mulhu 0b0110011 0b011 0b0000001 (λ a b c. refl) o t s)
      ⨾ (λ t. r_read Div 0b0110011 0b100 0b0000001 (λ a b c. refl) o t s)
      ⨾ (λ t. r_read Divu 0b0110011 0b101 0b0000001 (λ a b c. refl) o t s)
      ⨾ (λ t. r_read Rem 0b0110011 0b110 0b0000001 (λ a b c. refl) o t s)
      ⨾ (λ t. r_read Remu 0b0110011 0b111 0b0000001 (λ a b c. refl) o t s)
      ⨾ tt)

  register_operations_read : f.opcode ≡ 0b0110011 → by_funct7 register_operations f ≡ Some i → IsRead f i
  register_operations_read o = chosen_is_read register_operations f.funct7 f i
      (base_operations_read o
      ⨾ alternate_operations_read o
      ⨾ multiplications_read o
      ⨾ tt)

  left_word_shifts_read : f.opcode ≡ 0b0011011 → f.funct3 ≡ 0b001 → by_funct7 left_word_shifts f ≡ Some i → IsRead f i
  left_word_shifts_read o t = chosen_is_read left_word_shifts f.funct7 f i
      (word_shift_read Slliw 0b0011011 0b001 0b0000000 (λ a b z. refl) o t
      ⨾ tt)

  right_word_shifts_read : f.opcode ≡ 0b0011011 → f.funct3 ≡ 0b101 → by_funct7 right_word_shifts f ≡ Some i → IsRead f i
  right_word_shifts_read o t = chosen_is_read right_word_shifts f.funct7 f i
      (word_shift_read Srliw 0b0011011 0b101 0b0000000 (λ a b z. refl) o t
      ⨾ word_shift_read Sraiw 0b0011011 0b101 0b0100000 (λ a b z. refl) o t
      ⨾ tt)

  immediate_word_operations_read : f.opcode ≡ 0b0011011 → by_funct3 immediate_word_operations f ≡ Some i → IsRead f i
  immediate_word_operations_read o = chosen_is_read immediate_word_operations f.funct3 f i
      (i_read Addiw 0b0011011 0b000 (λ a b z. refl) o
      ⨾ left_word_shifts_read o
      ⨾ right_word_shifts_read o
      ⨾ tt)

  base_word_operations_read : f.opcode ≡ 0b0111011 → f.funct7 ≡ 0b0000000 → by_funct3 base_word_operations f ≡ Some i → IsRead f i
  base_word_operations_read o s = chosen_is_read base_word_operations f.funct3 f i
      ((λ t. r_read Addw 0b0111011 0b000 0b0000000 (λ a b c. refl) o t s)
      ⨾ (λ t. r_read Sllw 0b0111011 0b001 0b0000000 (λ a b c. refl) o t s)
      ⨾ (λ t. r_read Srlw 0b0111011 0b101 0b0000000 (λ a b c. refl) o t s)
      ⨾ tt)

  alternate_word_operations_read : f.opcode ≡ 0b0111011 → f.funct7 ≡ 0b0100000 → by_funct3 alternate_word_operations f ≡ Some i → IsRead f i
  alternate_word_operations_read o s = chosen_is_read alternate_word_operations f.funct3 f i
      ((λ t. r_read Subw 0b0111011 0b000 0b0100000 (λ a b c. refl) o t s)
      ⨾ (λ t. r_read Sraw 0b0111011 0b101 0b0100000 (λ a b c. refl) o t s)
      ⨾ tt)

  word_multiplications_read : f.opcode ≡ 0b0111011 → f.funct7 ≡ 0b0000001 → by_funct3 word_multiplications f ≡ Some i → IsRead f i
  word_multiplications_read o s = chosen_is_read word_multiplications f.funct3 f i
      ((λ t. r_read Mulw 0b0111011 0b000 0b0000001 (λ a b c. refl) o t s)
      ⨾ (λ t. r_read Divw 0b0111011 0b100 0b0000001 (λ a b c. refl) o t s)
      ⨾ (λ t. r_read Divuw 0b0111011 0b101 0b0000001 (λ a b c. refl) o t s)
      ⨾ (λ t. r_read Remw 0b0111011 0b110 0b0000001 (λ a b c. refl) o t s)
      ⨾ (λ t. r_read Remuw 0b0111011 0b111 0b0000001 (λ a b c. refl) o t s)
      ⨾ tt)

  register_word_operations_read : f.opcode ≡ 0b0111011 → by_funct7 register_word_operations f ≡ Some i → IsRead f i
  register_word_operations_read o = chosen_is_read register_word_operations f.funct7 f i
      (base_word_operations_read o
      ⨾ alternate_word_operations_read o
      ⨾ word_multiplications_read o
      ⨾ tt)

  environment_calls_read : by_word environment_calls f ≡ Some i → IsRead f i
  environment_calls_read = chosen_is_read environment_calls (packed f) f i
      (word_read Ecall ((lit< tt, lit< tt), (omega (arith, ints), omega (arith, ints))) refl
      ⨾ word_read Ebreak ((lit< tt, lit< tt), (omega (arith, ints), omega (arith, ints))) refl
      ⨾ tt)

  opcodes_read : by_opcode opcodes f ≡ Some i → IsRead f i
  opcodes_read = chosen_is_read opcodes f.opcode f i
      (u_read Lui 0b0110111 (λ a z. refl)
      ⨾ u_read Auipc 0b0010111 (λ a z. refl)
      ⨾ j_read Jal 0b1101111 (λ a z. refl)
      ⨾ indirect_jumps_read
      ⨾ branches_read
      ⨾ loads_read
      ⨾ stores_read
      ⨾ immediate_operations_read
      ⨾ register_operations_read
      ⨾ immediate_word_operations_read
      ⨾ register_word_operations_read
      ⨾ (λ o. environment_calls_read)
      ⨾ tt)

-- exactly the word of a valid instruction is read as it
pub instr_of-is : (word : ℕ) (i : Instr) → word < 2 ^ 32 → (instr_of word ≡ Some i) ↔ (IsValid i × (word_of i ≡ word))
instr_of-is word i h = (
  (λ found. let r = opcodes_read (cut word) (in_range_cut word h) i found in (r.valid, ap packed r.same ∙ packed-cut word)),
  (λ (valid, is). ap instr_of (sym is) ∙ instr_of-word_of i valid),
)

is_none_unless_some : (o : Option Instr) → ((i : Instr) → o ≢ Some i) → IsNone o
is_none_unless_some None never = search rules
is_none_unless_some (Some i) never = absurd (never i refl)

not_some_if_none : (o : Option Instr) (i : Instr) → IsNone o → o ≢ Some i
not_some_if_none None i none is = absurd (cc)
not_some_if_none (Some j) i none is = absurd (search rules)

-- no instruction is read exactly where no valid one has the word
pub instr_of-none : (word : ℕ) → word < 2 ^ 32 → (IsNone (instr_of word)) ↔ ((i : Instr) → IsValid i → word_of i ≢ word)
instr_of-none word h = (
  (λ none i valid is. not_some_if_none (instr_of word) i none ((instr_of-is word i h).1 (valid, is))),
  (λ never. is_none_unless_some (instr_of word) (λ i found.
      let p = (instr_of-is word i h).0 found in never i p.0 p.1)),
)
