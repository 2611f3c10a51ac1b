-- Pieces of code that ask once: a byte is put, the input's next one is taken, or the end of the run is requested.
use Rattle.std.specs.Prelude.{◌≡◌, ℕ, ◌+◌, ◌<◌, ◌^◌, ◌==◌, ◌||◌, Bool}
use Rattle.cmm_abi.specs.declared.registers.TheConstants.{REQUEST_VALUE}
use Rattle.rv_asm.specs.Parts.{Code}
use Rattle.rv_asm.specs.Reaching.{Reaches}
use Rattle.rv_table.specs.Bounds.{IsSound}
use Rattle.rv_table.specs.Machine.{MemoryMap, State, Asks, instruction_step, with_set}
use Rattle.rv_table.specs.declared.request.Request.{Request}
use Rattle.rv_table.specs.declared.request.Request.TheVariants.{PutByte, GetByte}
use Rattle.cmm_abi.specs.Registers.{is_scratch}
use Rattle.cmm_effects.specs.Changes.{Keeps, KeepsBut}
use Rattle.cmm_effects.specs.Pieces.{BeginsQuietly}

-- the registers that a request uses: register 10 besides the scratch registers
abbrev pub is_of_request : ℕ → Bool
is_of_request r = (r == REQUEST_VALUE) || is_scratch r

-- the state behind a request that is answered: control goes on behind it, and a byte that is taken is in register 10, where all ones stand for
-- the end of the input; the others are not answered in this way
abbrev pub IsAnswered : Request → State → State → Type 0
IsAnswered (PutByte byte) s t = t ≡ record s { pc = s.pc + 4 }
IsAnswered GetByte s t = (n : ℕ) × (n < 2 ^ 64) × (t ≡ with_set s REQUEST_VALUE n)
IsAnswered _ s t = Unit {0}

-- nothing is changed but the registers of a request
pub record KeepsAsking (s t : State) : Type 0 where
  pub registers : KeepsBut is_of_request s t
  pub memory : t.memory ≡ s.memory

-- from every sound state at one address that is P, n instructions lead to one that makes the request which the first tells, and from
-- there, once it is answered, n to the other address and a state that is Q for the one behind the request
pub record Requests (before after : ℕ) (P : MemoryMap → State → Type 0) (asked : State → Request) (Q : State → State → Type 0) (x : Code) (from to : ℕ) : Type 0 where
  pub quiet : BeginsQuietly x from
  pub go : (s : State) → IsSound s → s.pc ≡ from → P x.map s →
      Reaches x.map 1 before s
      (λ t. KeepsAsking s t × (instruction_step x.map t ≡ Asks (asked s))
      × ((u : State) → IsAnswered (asked s) t u → Reaches x.map 0 after u (λ v. (v.pc ≡ to) × Q u v)))

-- From every sound state at an address, n instructions at most lead to an ECALL that asks for what the state tells, and change nothing but scratch
-- registers.
pub record AsksFor (most : ℕ) (asked : State → Request) (x : Code) (from : ℕ) : Type 0 where
  pub go : (s : State) → IsSound s → s.pc ≡ from → Reaches x.map 0 most s (λ t. Keeps s t × (instruction_step x.map t ≡ Asks (asked s)))
