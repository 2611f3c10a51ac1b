-- How comparisons are made at 64 bits: RISC-V ISA Volume I, "Conditional Branches", which has six of them.
use Rattle.std.specs.Prelude.{◌≡◌, ℕ, ◌+◌, ◌*◌, ◌==◌, Bool, true, false, Option, Some, None}
use Rattle.cmm_words.specs.Words.{holds}
use Rattle.cmm_words.specs.declared.operators.Cmp.{Cmp}
use Rattle.cmm_words.specs.declared.operators.Cmp.TheVariants.{Eq, Ne, Lt, Le, Gt, Ge, Ltu, Leu, Gtu, Geu}
use Rattle.cmm_words.specs.declared.width.Width.{Width}
use Rattle.cmm_words.specs.declared.width.Width.TheVariants.{W64}
use Rattle.rv_asm.specs.Parts.{Code, way}
use Rattle.rv_asm.specs.declared.part.Label.{Label}
use Rattle.rv_table.specs.Machine.{State}
use Rattle.rv_table.specs.declared.instruction.Instr.{Instr}
use Rattle.rv_table.specs.declared.instruction.Instr.TheVariants.{Slt, Sltu}
use Rattle.cmm_effects.specs.Changes.{Keeps}
use Rattle.cmm_effects.specs.Pieces.{Always, Leads}
use Rattle.cmm_effects.specs.Ways.{Turns}
use Rattle.cmm_select.specs.Going.{CanDecide}
use Rattle.cmm_select.specs.Operands.{most_for, operand_at}
use Rattle.cmm_select.specs.Operators.{shifts_of}
use Rattle.cmm_select.specs.declared.operand.Operand.{Operand}
use Rattle.cmm_select.specs.inside.InPlace.{Makes, Passes, Tells01}

-- the comparisons of signed words
abbrev pub compares_integers : Cmp → Bool
compares_integers Lt = true
compares_integers Le = true
compares_integers Gt = true
compares_integers Ge = true
compares_integers _ = false

-- whether a comparison at a width is made of words with their sign: one of signed words of less than 64 bits
abbrev pub needs_signs : Cmp → Width → Bool
needs_signs c W64 = false
needs_signs c _ = compares_integers c

-- the comparison at 64 bits of the words in two registers is that of two operands at a width, and nothing is changed but scratch registers
pub record Readies (at : ℕ → ℕ) (c : Cmp) (w : Width) (left right : Operand) (a b : ℕ) (s t : State) : Type 0 where
  pub same : holds c W64 (t.registers a) (t.registers b) ≡ holds c w (operand_at at left s) (operand_at at right s)
  pub keeps : Keeps s t

abbrev pub ReadiesBoth : Cmp → Width → Operand → Operand → ℕ → ℕ → Code → ℕ → ℕ → Type 0
ReadiesBoth c w left right a b x =
    Passes (most_for left + most_for right + 2 * shifts_of w) (CanDecide x.at w left right) (Readies x.at c w left right a b) x

-- control goes to a label where the comparison holds at 64 bits of the words in two registers, and on otherwise
abbrev pub BranchesIn : Cmp → ℕ → ℕ → Label → Code → ℕ → ℕ → Type 0
BranchesIn c a b l x from on = Turns 3 Always (λ s. way (holds c W64 (s.registers a) (s.registers b)) (x.at l.number) on) Keeps x from

-- a register gets 1 where the comparison holds at 64 bits of the words in two registers, and else 0
abbrev pub TellsIn : ℕ → Cmp → ℕ → ℕ → ℕ → Code → ℕ → ℕ → Type 0
TellsIn most c rd a b x = Leads most Always (λ s t. Makes rd (Tells01 c W64 (s.registers a) (s.registers b)) s t) x

-- it does of the word in a register and a number
abbrev pub TellsNumber : Cmp → ℕ → ℕ → ℕ → Code → ℕ → ℕ → Type 0
TellsNumber c rd a n x = Leads 3 Always (λ s t. Makes rd (Tells01 c W64 (s.registers a) n) s t) x

-- whether a comparison with a number is whether a word is greater than 0
abbrev pub is_positive : Cmp → ℕ → Bool
is_positive Gt n = n == 0
is_positive Gtu n = n == 0
is_positive _ n = false

-- the branch on the operands with their places changed, where there is none on them as they are
abbrev pub turned_of : Cmp → Option Cmp
turned_of Le = Some Ge
turned_of Gt = Some Lt
turned_of Leu = Some Geu
turned_of Gtu = Some Ltu
turned_of _ = None

-- the comparison that holds where another doesn't, where no instruction makes that one as it is: RISC-V ISA Volume I, "Integer
-- Register-Register Operations"
abbrev pub contrary_of : Cmp → Option Cmp
contrary_of Ne = Some Eq
contrary_of Le = Some Gt
contrary_of Ge = Some Lt
contrary_of Leu = Some Gtu
contrary_of Geu = Some Ltu
contrary_of _ = None

-- the instruction for a comparison whether one word is less than the other
abbrev pub less_of : Cmp → ℕ → ℕ → ℕ → Instr
less_of Lt rd a b = Slt rd a b
less_of Gt rd a b = Slt rd b a
less_of Gtu rd a b = Sltu rd b a
less_of _ rd a b = Sltu rd a b
