-- The instructions of each part, in the form that it has where it begins.
use Rattle.std.specs.Prelude.{ℕ, ◌+◌, ◌-◌, ◌*◌, ◌/◌, ◌%◌, ◌^◌, ℤ, pos, negsuc, nat_lt, List, [], ◌∷◌, ◌++◌, length, slice_index, Bool, true, false, if◌then◌else◌}
use Rattle.cmm_words.specs.declared.operators.Cmp.{Cmp}
use Rattle.cmm_words.specs.declared.operators.Cmp.TheVariants.{Eq, Ne, Lt, Ge, Ltu, Geu}
use Rattle.rv_table.specs.declared.instruction.Instr.{Instr}
use Rattle.rv_table.specs.declared.instruction.Instr.TheVariants.{Auipc, Jal, Jalr, Lui, Addi, Beq, Bne, Blt, Bge, Bltu, Bgeu}
use Rattle.rv_asm.specs.Assembly.{meaning}
use Rattle.rv_asm.specs.Filling.{distance, number_at}
use Rattle.rv_asm.specs.Reach.{is_short, size_at}
use Rattle.rv_asm.specs.ShortForms.{branch_on}
use Rattle.rv_asm.specs.declared.filling.CodeFix.{CodeFix}
use Rattle.rv_asm.specs.declared.part.Label.{Label}
use Rattle.rv_asm.specs.declared.part.Meaning.{Meaning}
use Rattle.rv_asm.specs.declared.part.Meaning.TheVariants.{Inner, Outer}
use Rattle.rv_asm.specs.declared.part.Part.{Part}
use Rattle.rv_asm.specs.declared.part.Part.TheVariants.{Single, Place, Branch, Jump, Call, Address, Table}

-- the rounded upper part of a number modulo 2 ^ 64, and its low 12 bits as a signed number
abbrev pub high : ℕ → ℤ
high n = pos ((n + 2048) / 4096 % 2 ^ 20)

abbrev pub low : ℕ → ℤ
low n = if nat_lt (n % 4096) 2048 then pos (n % 4096) else negsuc (4095 - n % 4096)

-- a number modulo 2 ^ 64, by its sign
abbrev pub by_sign : ℕ → ℤ
by_sign n = if nat_lt n (2 ^ 63) then pos n else negsuc (2 ^ 64 - 1 - n)

-- past the next two instructions unless the comparison holds
abbrev pub past_unless : Cmp → ℕ → ℕ → Instr
past_unless Eq a b = Bne a b (pos 12)
past_unless Ne a b = Beq a b (pos 12)
past_unless Lt a b = Bge a b (pos 12)
past_unless Ge a b = Blt a b (pos 12)
past_unless Ltu a b = Bgeu a b (pos 12)
past_unless Geu a b = Bltu a b (pos 12)
past_unless _ a b = Beq a b (pos 12)

-- a jump through a register by a number, with its link in another
abbrev pub far : ℕ → ℕ → ℕ → List Instr
far through link n = Auipc through (high n) ∷ Jalr link through (low n) ∷ []

-- the instruction that begins an address: relative to pc for a place in this code, and not for a symbol
abbrev pub begins : Meaning → ℕ → ℤ → Instr
begins (Inner placed) rd imm = Auipc rd imm
begins (Outer symbol target) rd imm = Lui rd imm

-- one word for each label of a table, which jumps to the label's far jump
abbrev pub entries : ℕ → List Label → List Instr
entries ahead [] = []
entries ahead (l ∷ ls) = Jal 0 (pos ahead) ∷ entries (ahead + 4) ls

-- `number` gives how far a label is from an address, or, where it is not asked relative to that, the value of one that stands for a symbol
module _ (number : Bool → Label → ℕ → ℕ) where
  -- the far jumps of a table that begin at an address
  abbrev pub far_jumps : ℕ → List Label → List Instr
  far_jumps from [] = []
  far_jumps from (l ∷ ls) = far 6 0 (number true l from) ++ far_jumps (from + 8) ls

  -- the instructions of a part at an address, in the form that reaches any label
  abbrev pub far_form : List Meaning → ℕ → Part → List Instr
  far_form labels from (Single i) = i ∷ []
  far_form labels from (Place l) = []
  far_form labels from (Branch c a b l) = past_unless c a b ∷ far 6 0 (number true l (from + 4))
  far_form labels from (Jump l) = far 6 0 (number true l from)
  far_form labels from (Call l) = far 1 1 (number true l from)
  far_form labels from (Address rd l) =
      begins (meaning labels l) rd (high (number false l from)) ∷ Addi rd rd (low (number false l from)) ∷ []
  far_form labels from (Table ls) =
      entries (4 * length ls + 4) ls ++ (Jal 0 (pos (8 * length ls + 4)) ∷ far_jumps (from + 4 * length ls + 4) ls)

  -- in its short form, if it has one
  abbrev pub short_form : List Meaning → ℕ → Part → List Instr
  short_form labels from (Branch c a b l) = branch_on c a b (by_sign (number true l from)) ∷ []
  short_form labels from (Jump l) = Jal 0 (by_sign (number true l from)) ∷ []
  short_form labels from (Call l) = Jal 1 (by_sign (number true l from)) ∷ []
  short_form labels from p = far_form labels from p

  abbrev pub form_as : Bool → List Meaning → ℕ → Part → List Instr
  form_as true labels from p = short_form labels from p
  form_as false labels from p = far_form labels from p

  module _ (places : List ℕ) where
    -- in the form that it has there
    abbrev pub instructions : List Meaning → ℕ → Part → List Instr
    instructions labels from p = form_as (is_short labels places from p) labels from p

    -- the instructions of parts that begin at an address
    abbrev pub all_instructions : List Meaning → ℕ → List Part → List Instr
    all_instructions labels from [] = []
    all_instructions labels from (p ∷ ps) = instructions labels from p ++ all_instructions labels (from + size_at labels places from p) ps

-- the number of a label at an address; `outer` gives it for a symbol, relative to the address or not
abbrev pub number_by : (ℕ → Bool → ℕ → ℕ) → List ℕ → Meaning → Bool → ℕ → ℕ → ℕ
number_by outer places (Inner placed) relative l from = distance (slice_index places l) from
number_by outer places (Outer symbol target) relative l from = outer symbol relative from

abbrev pub number_of : List Meaning → List ℕ → (ℕ → Bool → ℕ → ℕ) → Bool → Label → ℕ → ℕ
number_of labels places outer relative l from = number_by outer places (meaning labels l) relative l.number from

-- all instructions of parts with these labels and places
abbrev pub code_by : List Meaning → List ℕ → (ℕ → Bool → ℕ → ℕ) → ℕ → List Part → List Instr
code_by labels places outer base parts = all_instructions (number_of labels places outer) places labels base parts

-- before the fixes are filled, a symbol's number is 0
abbrev pub unfilled : ℕ → Bool → ℕ → ℕ
unfilled symbol relative from = 0

-- then it is the symbol's, in code that stands higher by so much
abbrev pub filled_up : (ℕ → ℕ) → ℕ → ℕ → Bool → ℕ → ℕ
filled_up value up symbol relative from = number_at relative (value symbol) (from + up)

-- each part with a symbol has one fix, where it begins
abbrev pub fix_by : Bool → Meaning → ℕ → List CodeFix
fix_by relative (Inner placed) place = []
fix_by relative (Outer symbol target) place = record { place = place; symbol = symbol; relative = relative } ∷ []

abbrev pub fix_of : List Meaning → ℕ → Part → List CodeFix
fix_of labels place (Jump l) = fix_by true (meaning labels l) place
fix_of labels place (Call l) = fix_by true (meaning labels l) place
fix_of labels place (Address rd l) = fix_by false (meaning labels l) place
fix_of labels place _ = []

-- the fixes of parts that begin at an address, in code that begins at another
abbrev pub fixes_of : List Meaning → List ℕ → ℕ → ℕ → List Part → List CodeFix
fixes_of labels places base place [] = []
fixes_of labels places base place (p ∷ ps) = fix_of labels place p ++ fixes_of labels places base (place + size_at labels places (base + place) p) ps
