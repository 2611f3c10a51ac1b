-- What pieces of code change, said of the states of the machine before and after: RISC-V ISA Volume I, registers and memory.
use Rattle.std.specs.Prelude.{◌≡◌, ℕ, ◌+◌, ◌<◌, ◌^◌, ◌==◌, ◌&&◌, ◌||◌, nat_le, Bool, true, false, IsTrue}
use Rattle.cmm_abi.specs.declared.registers.TheConstants.{FRAME}
use Rattle.cmm_abi.specs.Registers.{is_scratch}
use Rattle.cmm_chain.specs.declared.frame.Location.{Location}
use Rattle.cmm_chain.specs.declared.frame.Location.TheVariants.{Slot, Saved, Temp}
use Rattle.cmm_chain.specs.Plans.{is_register}
use Rattle.rv_table.specs.Machine.{MemoryMap, State, is_accessible, loaded, stored}

-- all registers but these are as they were
abbrev pub KeepsBut : (ℕ → Bool) → State → State → Type 0
KeepsBut changed s t = (r : ℕ) → changed r ≡ false → t.registers r ≡ s.registers r

-- nothing is changed but scratch registers
pub record Keeps (s t : State) : Type 0 where
  pub registers : KeepsBut is_scratch s t
  pub memory : t.memory ≡ s.memory

-- a register gets a number, and nothing else is changed
pub record Sets (rd number : ℕ) (s t : State) : Type 0 where
  pub given : t.registers rd ≡ number
  pub others : KeepsBut (λ r. r == rd) s t
  pub memory : t.memory ≡ s.memory

-- a number is stored, and nothing else is changed but scratch registers
pub record Writes (address size number : ℕ) (s t : State) : Type 0 where
  pub registers : KeepsBut is_scratch s t
  pub memory : t.memory ≡ stored s.memory address size number

-- ---- the places of the activation that runs, whose frame is at the address in register 2

-- a slot of a frame, which has less than 2 MiB, or a register of its kind
abbrev pub IsPlace : Location → Type 0
IsPlace (Slot o) = o < 2 ^ 21
IsPlace l = IsTrue (is_register l)

-- what a place has
abbrev pub read_at : Location → State → ℕ
read_at (Slot o) s = loaded s.memory (s.registers FRAME + o) 8
read_at (Saved r) s = s.registers r
read_at (Temp r) s = s.registers r

-- instructions reach a place: the eight bytes of a slot may be loaded and stored
abbrev pub CanReach : Location → MemoryMap → State → Type 0
CanReach (Slot o) m s = (s.registers FRAME + o < 2 ^ 64) × IsTrue (is_accessible m (s.registers FRAME + o) 8)
CanReach (Saved r) m s = Unit {0}
CanReach (Temp r) m s = Unit {0}

-- a number is put into a place, and nothing else is changed but scratch registers
abbrev pub PutsRegister : ℕ → ℕ → State → State → Type 0
PutsRegister r n s t = (t.registers r ≡ n) × KeepsBut (λ k. (k == r) || is_scratch k) s t × (t.memory ≡ s.memory)

abbrev pub Puts : Location → ℕ → State → State → Type 0
Puts (Slot o) n s t = Writes (s.registers FRAME + o) 8 n s t
Puts (Saved r) n s t = PutsRegister r n s t
Puts (Temp r) n s t = PutsRegister r n s t
