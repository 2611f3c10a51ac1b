-- Pieces of code behind which control goes on at an address that the state tells, as a label's.
use Rattle.std.specs.Prelude.{◌≡◌, ℕ}
use Rattle.rv_asm.specs.Parts.{Code}
use Rattle.rv_asm.specs.Reaching.{Reaches}
use Rattle.rv_table.specs.Bounds.{IsSound}
use Rattle.rv_table.specs.Machine.{MemoryMap, State}
use Rattle.cmm_effects.specs.Pieces.{BeginsQuietly}

-- from every sound state at an address that is P, n instructions, and none of them asks or traps, lead to the address that the state
-- tells, and to a state that is Q for the first
pub record Goes (least most : ℕ) (P : MemoryMap → State → Type 0) (there : State → ℕ) (Q : State → State → Type 0) (x : Code) (from : ℕ) : Type 0 where
  pub go : (s : State) → IsSound s → s.pc ≡ from → P x.map s → Reaches x.map least most s (λ t. (t.pc ≡ there s) × Q s t)

-- as `Goes`, by one instruction at least, of which the first asks for nothing but input
pub record Turns (most : ℕ) (P : MemoryMap → State → Type 0) (there : State → ℕ) (Q : State → State → Type 0) (x : Code) (from : ℕ) : Type 0 where
  pub quiet : BeginsQuietly x from
  pub goes : Goes 1 most P there Q x from
