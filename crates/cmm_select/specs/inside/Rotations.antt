-- Rotations by a number, as two shifts: RISC-V ISA Volume I, "Integer Register-Immediate Instructions".
use Rattle.std.specs.Prelude.{ℕ, ◌-◌, ◌%◌, Bool, true, false, Option, Some, None}
use Rattle.cmm_words.specs.Widths.{bits}
use Rattle.cmm_words.specs.declared.operators.Op2.{Op2}
use Rattle.cmm_words.specs.declared.operators.Op2.TheVariants as op
use Rattle.cmm_words.specs.declared.width.Width.{Width}
use Rattle.cmm_select.specs.declared.operand.Operand.{Operand}
use Rattle.cmm_select.specs.declared.operand.Operand.TheVariants.{Held}
use Rattle.cmm_select.specs.declared.source.Source.TheVariants.{Number}

abbrev pub is_rotation : Op2 → Bool
is_rotation op.Rotl = true
is_rotation op.Rotr = true
is_rotation _ = false

-- the number of a right operand by which a word is rotated
abbrev pub turns_of : Op2 → Operand → Option ℕ
turns_of o (Held (Number n)) = elim (is_rotation o) [ true ↦ Some n | false ↦ None ]
turns_of o _ = None

-- by how many bits the word is shifted to the left, and to the right: by what the number leaves of the width, and by the rest of the width
abbrev pub left_by : Op2 → Width → ℕ → ℕ
left_by op.Rotr w n = (bits w - n % bits w) % 64
left_by _ w n = n % bits w

abbrev pub right_by : Op2 → Width → ℕ → ℕ
right_by op.Rotr w n = n % bits w
right_by _ w n = (bits w - n % bits w) % 64
