-- Words of memory in several accesses of a width, each at its offset from the address in register 5.
use Rattle.std.specs.Prelude.{◌≡◌, ℕ, ◌+◌, ◌*◌, ◌<◌, ◌≤◌, ◌^◌, ◌==◌, ◌||◌, pos, IsTrue}
use Rattle.cmm_abi.specs.declared.registers.TheConstants.{FIRST_SCRATCH, HELPER, SECOND_SCRATCH}
use Rattle.cmm_words.specs.Widths.{bytes}
use Rattle.cmm_words.specs.declared.width.Width.{Width}
use Rattle.cmm_words.specs.declared.width.Width.TheVariants.{W8, W16, W32, W64}
use Rattle.rv_table.specs.Machine.{MemoryMap, State, is_accessible, loaded}
use Rattle.rv_table.specs.declared.instruction.Instr.{Instr}
use Rattle.rv_table.specs.declared.instruction.Instr.TheVariants.{Slli, Srli}
use Rattle.rv_table.specs.Words.{shifted_left, sum}
use Rattle.cmm_effects.specs.Changes.{Keeps, KeepsBut, Writes}

-- register 7 is shifted by what an access has; by one of 64 bits nothing is
abbrev pub shift_up : Width → Instr
shift_up W8 = Slli 7 7 (pos 8)
shift_up W16 = Slli 7 7 (pos 16)
shift_up W32 = Slli 7 7 (pos 32)
shift_up W64 = Slli 7 7 (pos 0)

abbrev pub shift_down : Width → Instr
shift_down W8 = Srli 7 7 (pos 8)
shift_down W16 = Srli 7 7 (pos 16)
shift_down W32 = Srli 7 7 (pos 32)
shift_down W64 = Srli 7 7 (pos 0)

-- n accesses may be made from an offset on
pub record CanAccess (p : Width) (o n : ℕ) (m : MemoryMap) (s : State) : Type 0 where
  pub fits : s.registers FIRST_SCRATCH + o + n * bytes p ≤ 2 ^ 64
  pub accessible : (k : ℕ) → k < n → IsTrue (is_accessible m (s.registers FIRST_SCRATCH + o + k * bytes p) (bytes p))

-- register 7 gets the number whose bytes they are, and nothing else is changed but register 6
pub record Gathers (p : Width) (o n : ℕ) (s t : State) : Type 0 where
  pub given : t.registers SECOND_SCRATCH ≡ loaded s.memory (s.registers FIRST_SCRATCH + o) (n * bytes p)
  pub first : t.registers FIRST_SCRATCH ≡ s.registers FIRST_SCRATCH
  pub keeps : Keeps s t

-- a register gets what register 7 has above, and an access at an offset below it, and nothing else is changed but registers 6 and 7
pub record Joins (p : Width) (o rd : ℕ) (s t : State) : Type 0 where
  pub given : t.registers rd ≡ sum (shifted_left (s.registers SECOND_SCRATCH) (8 * bytes p)) (loaded s.memory (s.registers FIRST_SCRATCH + o) (bytes p))
  pub others : KeepsBut (λ r. (r == rd) || ((r == HELPER) || (r == SECOND_SCRATCH))) s t
  pub memory : t.memory ≡ s.memory

-- the bytes of register 7 are stored there, and the address stays
pub record Scatters (p : Width) (o n : ℕ) (s t : State) : Type 0 where
  pub writes : Writes (s.registers FIRST_SCRATCH + o) (n * bytes p) (s.registers SECOND_SCRATCH) s t
  pub first : t.registers FIRST_SCRATCH ≡ s.registers FIRST_SCRATCH
