-- What the pieces for operators do, with their operands in registers 5 and 7 and their result in register 5.
use Rattle.std.specs.Prelude.{◌≡◌, ℕ, Some}
use Rattle.cmm_abi.specs.declared.registers.TheConstants.{FIRST_SCRATCH, SECOND_SCRATCH}
use Rattle.cmm_words.specs.Widths.{IsWord}
use Rattle.cmm_words.specs.Words.{low_bits, sign_extended, value2}
use Rattle.cmm_words.specs.declared.operators.Op2.{Op2}
use Rattle.cmm_words.specs.declared.width.Width.{Width}
use Rattle.cmm_words.specs.declared.width.Width.TheVariants.{W8, W16, W32, W64}
use Rattle.rv_table.specs.Machine.{MemoryMap, State}
use Rattle.cmm_effects.specs.Changes.{Keeps, Sets}

-- a register has a word of a width
abbrev pub HasWord : Width → ℕ → MemoryMap → State → Type 0
HasWord w r m s = IsWord w (s.registers r)

-- both operands are words of a width
abbrev pub HaveWords : Width → MemoryMap → State → Type 0
HaveWords w m s = IsWord w (s.registers FIRST_SCRATCH) × IsWord w (s.registers SECOND_SCRATCH)

-- the result is the operator's value, if it has one (C-- Language Specification 2.0, the table of primitive operators), and nothing but
-- registers 5 to 7 is changed
pub record Operates (op : Op2) (w : Width) (s t : State) : Type 0 where
  pub given : (v : ℕ) → value2 op w (s.registers FIRST_SCRATCH) (s.registers SECOND_SCRATCH) ≡ Some v → t.registers FIRST_SCRATCH ≡ v
  pub keeps : Keeps s t

-- the number in a register is cut to a width
abbrev pub Narrows : Width → ℕ → State → State → Type 0
Narrows w r s t = Sets r (low_bits w (s.registers r)) s t

-- the word in a register gets its sign
abbrev pub Extends : Width → ℕ → State → State → Type 0
Extends w r s t = Sets r (sign_extended w W64 (s.registers r)) s t

-- how many instructions at most cut a number to a width, or extend a word of it: none at 64 bits
abbrev pub shifts_of : Width → ℕ
shifts_of W8 = 2
shifts_of W16 = 2
shifts_of W32 = 2
shifts_of W64 = 0
