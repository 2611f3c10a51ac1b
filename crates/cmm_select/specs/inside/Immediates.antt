-- Operators and comparisons of a word and a small number: RISC-V ISA Volume I, "Integer Register-Immediate Instructions".
use Rattle.std.specs.Prelude.{ℕ, ◌+◌, pos, ◌-ℤ◌, nat_lt, Bool, true, false, Option, Some, None}
use Rattle.cmm_words.specs.declared.operators.Cmp.{Cmp}
use Rattle.cmm_words.specs.declared.operators.Cmp.TheVariants.{Eq, Ne, Lt, Le, Gt, Ge, Ltu, Leu, Gtu, Geu}
use Rattle.cmm_words.specs.declared.operators.Op2.{Op2}
use Rattle.cmm_words.specs.declared.operators.Op2.TheVariants as op
use Rattle.cmm_words.specs.declared.width.Width.{Width}
use Rattle.cmm_words.specs.declared.width.Width.TheVariants.{W8, W64}
use Rattle.rv_table.specs.declared.instruction.Instr.{Instr}
use Rattle.rv_table.specs.declared.instruction.Instr.TheVariants.{Addi, Andi, Ori, Xori, Slli, Srai, Srli, Slti, Sltiu, Sltu}
use Rattle.cmm_select.specs.declared.operand.Operand.{Operand}
use Rattle.cmm_select.specs.declared.operand.Operand.TheVariants.{Held}
use Rattle.cmm_select.specs.declared.source.Source.TheVariants.{Number}

-- an instruction does an operator on a word and a number below this
abbrev pub limit_of : Op2 → ℕ
limit_of op.Add = 2048
limit_of op.Sub = 2048
limit_of op.And = 2048
limit_of op.Or = 2048
limit_of op.Xor = 2048
limit_of op.Shl = 64
limit_of op.Shrl = 64
limit_of op.Shra = 64
limit_of _ = 0

-- the number of a right operand, if one does
abbrev pub small_of : Op2 → Operand → Option ℕ
small_of o (Held (Number n)) = elim (nat_lt n (limit_of o)) [ true ↦ Some n | false ↦ None ]
small_of o _ = None

-- that instruction: a difference is a sum with the negative
abbrev pub immediate : Op2 → ℕ → ℕ → ℕ → Instr
immediate op.Sub rd a n = Addi rd a (pos 0 -ℤ pos n)
immediate op.And rd a n = Andi rd a (pos n)
immediate op.Or rd a n = Ori rd a (pos n)
immediate op.Xor rd a n = Xori rd a (pos n)
immediate op.Shl rd a n = Slli rd a (pos n)
immediate op.Shrl rd a n = Srli rd a (pos n)
immediate op.Shra rd a n = Srai rd a (pos n)
immediate _ rd a n = Addi rd a (pos n)

-- whether it is done on a word with its sign: one of less than 64 bits
abbrev pub heeds_sign : Op2 → Width → Bool
heeds_sign o W64 = false
heeds_sign op.Shra w = true
heeds_sign _ w = false

-- ---- comparisons

-- instructions hold a number below this, and the number behind it, and as a word of the width it has no sign
abbrev pub compared_below : Width → ℕ
compared_below W8 = 128
compared_below _ = 2047

-- the number of a right operand, if they do
abbrev pub compared_of : Width → Operand → Option ℕ
compared_of w (Held (Number n)) = elim (nat_lt n (compared_below w)) [ true ↦ Some n | false ↦ None ]
compared_of w _ = None

-- whether a word is less than the number, or than the number behind it, or their difference
abbrev pub first_comparing : Cmp → ℕ → ℕ → ℕ → Instr
first_comparing Eq rd a n = Addi rd a (pos 0 -ℤ pos n)
first_comparing Ne rd a n = Addi rd a (pos 0 -ℤ pos n)
first_comparing Lt rd a n = Slti rd a (pos n)
first_comparing Ge rd a n = Slti rd a (pos n)
first_comparing Le rd a n = Slti rd a (pos (n + 1))
first_comparing Gt rd a n = Slti rd a (pos (n + 1))
first_comparing Ltu rd a n = Sltiu rd a (pos n)
first_comparing Geu rd a n = Sltiu rd a (pos n)
first_comparing Leu rd a n = Sltiu rd a (pos (n + 1))
first_comparing Gtu rd a n = Sltiu rd a (pos (n + 1))

-- what makes that the number that tells of the comparison, where it is not
abbrev pub second_comparing : Cmp → ℕ → Option Instr
second_comparing Eq rd = Some (Sltiu rd rd (pos 1))
second_comparing Ne rd = Some (Sltu rd 0 rd)
second_comparing Gt rd = Some (Xori rd rd (pos 1))
second_comparing Ge rd = Some (Xori rd rd (pos 1))
second_comparing Gtu rd = Some (Xori rd rd (pos 1))
second_comparing Geu rd = Some (Xori rd rd (pos 1))
second_comparing _ rd = None
