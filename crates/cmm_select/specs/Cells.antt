-- What the pieces for words of memory do.
use Rattle.std.specs.Prelude.{◌≡◌, ℕ, IsTrue}
use Rattle.cmm_abi.specs.declared.registers.TheConstants.{FIRST_SCRATCH}
use Rattle.cmm_words.specs.Widths.{bytes}
use Rattle.cmm_words.specs.declared.width.Width.{Width}
use Rattle.rv_table.specs.Machine.{MemoryMap, State, is_accessible, loaded}
use Rattle.cmm_effects.specs.Changes.{Keeps}

-- a word of a width may be loaded and stored at an address
abbrev pub IsCell : Width → MemoryMap → ℕ → Type 0
IsCell w m address = IsTrue (is_accessible m address (bytes w))

-- register 5 gets the word at the address in it, with zeros above it, and nothing but registers 5 to 7 is changed
pub record Loads (w : Width) (s t : State) : Type 0 where
  pub given : t.registers FIRST_SCRATCH ≡ loaded s.memory (s.registers FIRST_SCRATCH) (bytes w)
  pub keeps : Keeps s t

-- a number is the word of memory at an address
abbrev pub IsLoaded : Width → (ℕ → ℕ) → ℕ → ℕ → Type 0
IsLoaded w memory address n = n ≡ loaded memory address (bytes w)
