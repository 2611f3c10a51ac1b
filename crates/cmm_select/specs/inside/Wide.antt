-- The instructions of operators at 64 bits: RISC-V ISA Volume I, "Integer Register-Register Operations" and the M extension.
use Rattle.std.specs.Prelude.{ℕ, Bool, true, false}
use Rattle.cmm_words.specs.declared.operators.Op2.{Op2}
use Rattle.cmm_words.specs.declared.operators.Op2.TheVariants as op
use Rattle.cmm_select.specs.declared.operator.Method.{Method}
use Rattle.cmm_select.specs.declared.operator.Method.TheVariants.{Plain, Shift, Copies, Left, Right, Signed, Quotient, Remainder}
use Rattle.rv_table.specs.declared.instruction.Instr.{Instr}
use Rattle.rv_table.specs.declared.instruction.Instr.TheVariants.{Add, Sub, Mul, And, Or, Xor, Sll, Srl, Div, Divu, Rem, Remu}

-- the operators that one instruction does on any words of 64 bits: at a width on words as they are,
abbrev pub is_plain : Op2 → Bool
is_plain op.Add = true
is_plain op.Sub = true
is_plain op.Mul = true
is_plain op.And = true
is_plain op.Or = true
is_plain op.Xor = true
is_plain op.Divu = true
is_plain op.Modu = true
is_plain _ = false

-- one whose value on words of a width is the same at 64 bits
abbrev pub keeps_width : Op2 → Bool
keeps_width op.And = true
keeps_width op.Or = true
keeps_width op.Xor = true
keeps_width op.Shrl = true
keeps_width op.Divu = true
keeps_width op.Modu = true
keeps_width _ = false

-- or on words with their sign
abbrev pub is_signed : Op2 → Bool
is_signed op.Quot = true
is_signed op.Rem = true
is_signed _ = false

-- and those that an instruction does where their count is below 64
abbrev pub is_shift : Op2 → Bool
is_shift op.Shl = true
is_shift op.Shrl = true
is_shift _ = false

-- that instruction, on the words in two registers
abbrev pub direct : Op2 → ℕ → ℕ → ℕ → Instr
direct op.Add rd a b = Add rd a b
direct op.Sub rd a b = Sub rd a b
direct op.Mul rd a b = Mul rd a b
direct op.And rd a b = And rd a b
direct op.Or rd a b = Or rd a b
direct op.Xor rd a b = Xor rd a b
direct op.Shl rd a b = Sll rd a b
direct op.Shrl rd a b = Srl rd a b
direct op.Divu rd a b = Divu rd a b
direct op.Modu rd a b = Remu rd a b
direct op.Quot rd a b = Div rd a b
direct op.Rem rd a b = Rem rd a b
direct _ rd a b = Add rd a b

-- how an operator is done
abbrev pub method_of : Op2 → Method
method_of op.Shl = Shift
method_of op.Shrl = Shift
method_of op.Shra = Copies
method_of op.Rotl = Left
method_of op.Rotr = Right
method_of op.Quot = Signed
method_of op.Rem = Signed
method_of op.Div = Quotient
method_of op.Mod = Remainder
method_of _ = Plain
