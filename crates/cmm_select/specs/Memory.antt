-- What the pieces for words of memory at operands' addresses do.
use Rattle.std.specs.Prelude.{ℕ, ◌+◌, ◌*◌, ◌/◌, ◌%◌, ◌<◌, ◌≤◌, ◌^◌, ◌==◌, true, false, IsTrue}
use Rattle.cmm_words.specs.Widths.{bytes}
use Rattle.cmm_words.specs.declared.width.Width.{Width}
use Rattle.cmm_words.specs.declared.width.Width.TheVariants.{W8, W16, W32, W64}
use Rattle.rv_asm.specs.Parts.{Code}
use Rattle.rv_table.specs.Machine.{MemoryMap, State, is_accessible, loaded}
use Rattle.cmm_effects.specs.Changes.{Writes}
use Rattle.cmm_effects.specs.Pieces.{Leads}
use Rattle.cmm_select.specs.Destinations.{CanPut, PutsTo}
use Rattle.cmm_select.specs.Operands.{CanBringBoth, CanBringOperand, operand_at}
use Rattle.cmm_select.specs.declared.destination.Destination.{Destination}
use Rattle.cmm_select.specs.declared.operand.Operand.{Operand}

-- the widest accesses of a word at an address that is a multiple of n bytes: as wide as the word, or as the address allows
abbrev pub access_of_half : ℕ → Width
access_of_half aligned = elim (aligned % 2 == 0) [ true ↦ W16 | false ↦ W8 ]

abbrev pub access_of_word : ℕ → Width
access_of_word aligned = elim (aligned % 4 == 0) [ true ↦ W32 | false ↦ access_of_half aligned ]

abbrev pub access_of : Width → ℕ → Width
access_of W8 aligned = W8
access_of W16 aligned = access_of_half aligned
access_of W32 aligned = access_of_word aligned
access_of W64 aligned = elim (aligned % 8 == 0) [ true ↦ W64 | false ↦ access_of_word aligned ]

-- how many they are
abbrev pub accesses : Width → ℕ → ℕ
accesses w aligned = bytes w / bytes (access_of w aligned)

-- a word of a width may be loaded and stored at an address by accesses of a width, and its bytes have addresses of 64 bits
pub record IsCellBy (p w : Width) (a : ℕ) (m : MemoryMap) : Type 0 where
  pub fits : a + bytes w ≤ 2 ^ 64
  pub accessible : (k : ℕ) → k < bytes w / bytes p → IsTrue (is_accessible m (a + k * bytes p) (bytes p))

-- the address is brought, the word there may be loaded, and the destination is reached
pub record CanAssignLoaded (at : ℕ → ℕ) (w : Width) (aligned : ℕ) (address : Operand) (to : Destination) (m : MemoryMap) (s : State) : Type 0 where
  pub brings : CanBringOperand address m s
  pub cell : IsCellBy (access_of w aligned) w (operand_at at address s) m
  pub reaches : CanPut at to m s

-- the word is put there, with zeros above it, and nothing else is changed but scratch registers
abbrev pub AssignsLoaded : ℕ → Width → ℕ → Operand → Destination → Code → ℕ → ℕ → Type 0
AssignsLoaded most w aligned address to x =
    Leads most (CanAssignLoaded x.at w aligned address to) (λ s t. PutsTo x.at to (loaded s.memory (operand_at x.at address s) (bytes w)) s t) x

-- both operands are brought, and a word may be stored at the first
pub record CanStore (at : ℕ → ℕ) (w : Width) (aligned : ℕ) (address value : Operand) (m : MemoryMap) (s : State) : Type 0 where
  pub brings : CanBringBoth address value m s
  pub cell : IsCellBy (access_of w aligned) w (operand_at at address s) m

-- the second is stored there, and nothing else is changed but scratch registers
abbrev pub StoresWord : ℕ → Width → ℕ → Operand → Operand → Code → ℕ → ℕ → Type 0
StoresWord most w aligned address value x =
    Leads most (CanStore x.at w aligned address value) (λ s t. Writes (operand_at x.at address s) (bytes w) (operand_at x.at value s) s t) x
