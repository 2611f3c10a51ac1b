-- What holds of changes.
use Rattle.std.specs.Prelude.{◌≡◌, ℕ, ◌<◌, ◌^◌}
use Rattle.cmm_chain.specs.declared.frame.Location.{Location}
use Rattle.rv_asm.specs.Parts.{Code}
use Rattle.rv_table.specs.Machine.{MemoryMap, State}
use Rattle.cmm_effects.specs.Accesses.{CanReachGlobal, PutsGlobal, global_at}
use Rattle.cmm_effects.specs.Changes.{CanReach, IsPlace, Keeps, Puts, Sets, read_at}
use Rattle.cmm_effects.specs.Pieces.{Always, Leads}

-- a place has what was put there
abbrev pub PutIsRead : Type 0
PutIsRead = (place : Location) (n : ℕ) (s t : State) → n < 2 ^ 64 → Puts place n s t → read_at place t ≡ n

-- where only scratch registers are changed, a place has what it had, and is reached as before
abbrev pub KeptIsRead : Type 0
KeptIsRead = (place : Location) (s t : State) → IsPlace place → Keeps s t → read_at place t ≡ read_at place s

abbrev pub KeptIsReachable : Type 0
KeptIsReachable = (place : Location) (m : MemoryMap) (s t : State) → Keeps s t → CanReach place m s → CanReach place m t

-- one register is set, and then another
abbrev pub SetsFollow : Type 0
SetsFollow =
    (x : Code) (from mid to a b u v : ℕ) → Leads 1 Always (Sets a u) x from mid → Leads 1 Always (Sets b v) x mid to →
    Leads 2 Always (λ s t. (between : State) × Sets a u s between × Sets b v between t) x from to

-- a global register has what was put there, and where only scratch registers are changed it has what it had
pub record GlobalsAreRead : Type 0 where
  pub put : (offset n : ℕ) (s t : State) → n < 2 ^ 64 → PutsGlobal offset n s t → global_at offset t ≡ n
  pub kept : (offset : ℕ) (s t : State) → Keeps s t → global_at offset t ≡ global_at offset s
  pub reachable : (offset : ℕ) (m : MemoryMap) (s t : State) → Keeps s t → CanReachGlobal offset m s → CanReachGlobal offset m t
