-- Pieces of code that make a change wherever they stand.
use Rattle.std.specs.Prelude.{◌≡◌, ℕ, ◌+◌, ◌*◌, ◌≤◌, List}
use Rattle.rv_asm.specs.Appending.{Appends}
use Rattle.rv_asm.specs.Parts.{Code}
use Rattle.rv_asm.specs.Reaching.{Reaches}
use Rattle.rv_asm.specs.Sizes.{all_longest}
use Rattle.rv_asm.specs.declared.part.Part.{Part}
use Rattle.rv_table.specs.Bounds.{IsSound}
use Rattle.rv_table.specs.Machine.{MemoryMap, State, Asks, instruction_step}
use Rattle.rv_table.specs.declared.request.Request.{Request}
use Rattle.rv_table.specs.declared.request.Request.TheVariants.{GetByte}

-- the instruction at an address asks for nothing but input, whatever the state is
abbrev pub BeginsQuietly : Code → ℕ → Type 0
BeginsQuietly x from = (s : State) (r : Request) → s.pc ≡ from → instruction_step x.map s ≡ Asks r → r ≡ GetByte

-- from every sound state at one address that is P, n instructions at most, and none of them asks or traps, lead to the other
-- address and a state that is Q for the first
pub record Runs (least most : ℕ) (P : MemoryMap → State → Type 0) (Q : State → State → Type 0) (x : Code) (from to : ℕ) : Type 0 where
  pub go : (s : State) → IsSound s → s.pc ≡ from → P x.map s → Reaches x.map least most s (λ t. (t.pc ≡ to) × Q s t)

-- a piece of one instruction or more, of which the first asks for nothing but input
pub record Leads (most : ℕ) (P : MemoryMap → State → Type 0) (Q : State → State → Type 0) (x : Code) (from to : ℕ) : Type 0 where
  pub quiet : BeginsQuietly x from
  pub runs : Runs 1 most P Q x from to

-- parts were added at the end, of n instructions at most, and `So` holds wherever they stand
pub record Adds (most : ℕ) (old new : List Part) (So : Code → ℕ → ℕ → Type 0) : Type 0 where
  pub appends : Appends old new So
  pub few : all_longest new ≤ all_longest old + 4 * most

-- nothing is required of a state
abbrev pub Always : MemoryMap → State → Type 0
Always m s = Unit {0}
