-- Numbers go from registers to registers.
use Rattle.std.specs.Prelude.{◌≡◌, ◌≢◌, ◌⊎◌, ℕ, ◌==◌, ◌&&◌, not, nat_le, Bool, false, List, [], ◌∷◌}
use Rattle.cmm_abi.specs.declared.registers.TheConstants.{FIRST_SCRATCH}
use Rattle.cmm_moves.specs.Moves.{at_once, in_order}
use Rattle.cmm_moves.specs.declared.sequencing.Move.{Move}
use Rattle.rv_asm.specs.Parts.{Code}
use Rattle.rv_table.specs.Machine.{MemoryMap, State}
use Rattle.cmm_effects.specs.Pieces.{BeginsQuietly, Runs}

-- a register that an instruction writes
abbrev pub is_movable : ℕ → Bool
is_movable r = nat_le 1 r && nat_le r 31

-- one after the other, and nothing else is changed
pub record MovesInOrder (moves : List Move) (s t : State) : Type 0 where
  pub registers : (r : ℕ) → t.registers r ≡ in_order moves s.registers r
  pub memory : t.memory ≡ s.memory

-- all at once, and nothing else is changed but register 5
pub record MovesAtOnce (moves : List Move) (s t : State) : Type 0 where
  pub registers : (r : ℕ) → r ≢ FIRST_SCRATCH → t.registers r ≡ at_once moves s.registers r
  pub memory : t.memory ≡ s.memory

-- the first move, if there is any, has another target than its source
abbrev pub begins_moving : List Move → Bool
begins_moving [] = false
begins_moving (m ∷ ms) = not (m.to == m.from)

-- Instructions, between two numbers of them, perhaps none if that is fewest, of which the first asks for nothing but input: from every sound state
-- that is P they lead to one that is Q for it.
pub record PassesBy (least most : ℕ) (P : MemoryMap → State → Type 0) (Q : State → State → Type 0) (x : Code) (from to : ℕ) : Type 0 where
  pub begins : ((from ≡ to) × (least ≡ 0)) ⊎ BeginsQuietly x from
  pub runs : Runs least most P Q x from to
