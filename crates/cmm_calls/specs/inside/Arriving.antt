-- Values come to memory, from registers to registers, and from the argument area to registers.
use Rattle.std.specs.Prelude.{◌≡◌, ℕ, suc, ◌+◌, ◌<◌, ◌==◌, ◌&&◌, not, if◌then◌else◌, nat_le, nat_lt, Bool, true, false, List, [], ◌∷◌, ◌++◌, Option, Some, None, is_some, slice_get, drop}
use Rattle.std.specs.List.{All, list_any}
use Rattle.cmm_abi.specs.Registers.{is_scratch}
use Rattle.cmm_abi.specs.Regions.{value_place, word_at}
use Rattle.cmm_abi.specs.declared.registers.TheConstants.{FIRST_VALUE, FRAME, REGION}
use Rattle.cmm_abi.specs.declared.values.TheConstants.{IN_REGISTERS}
use Rattle.cmm_chain.specs.declared.frame.Location.TheVariants.{Slot, Saved, Temp}
use Rattle.cmm_moves.specs.declared.sequencing.Move.{Move}
use Rattle.rv_asm.specs.Parts.{Code}
use Rattle.rv_table.specs.Machine.{Region, State, stored}
use Rattle.cmm_effects.specs.Changes.{KeepsBut}
use Rattle.cmm_select.specs.Destinations.{PutsTo}
use Rattle.cmm_select.specs.declared.destination.Destination.{Destination}
use Rattle.cmm_select.specs.declared.destination.Destination.TheVariants.{Place, Register}
use Rattle.cmm_calls.specs.Copying.{IsGlobalBy, PutsEachTo, values_to}
use Rattle.cmm_calls.specs.Values.{HasRegion}
use Rattle.cmm_calls.specs.inside.Giving.{one_if}
use Rattle.cmm_calls.specs.inside.Moves.{PassesBy, begins_moving}

-- ---- which come when

-- the register that is a destination
abbrev pub register_of : Destination → Option ℕ
register_of (Place (Saved r)) = Some r
register_of (Place (Temp r)) = Some r
register_of _ = None

abbrev pub is_register : ℕ → Option ℕ → Bool
is_register r None = false
is_register r (Some k) = k == r

-- a register is a destination again
abbrev pub is_again : ℕ → List Destination → Bool
is_again r rest = list_any (λ d. is_register r (register_of d)) rest

abbrev pub unless : Bool → ℕ → Option ℕ
unless true r = None
unless false r = Some r

-- the register that a value comes to, if none of those behind it comes there
abbrev pub last_to : Option ℕ → List Destination → Option ℕ
last_to None rest = None
last_to (Some r) rest = unless (is_again r rest) r

abbrev pub is_stored : Destination → Bool
is_stored d = not (is_some (register_of d))

abbrev pub move_from : ℕ → Option ℕ → List Move
move_from k None = []
move_from k (Some r) = record { to = r; from = FIRST_VALUE + k } ∷ []

abbrev pub copy_move : ℕ → Destination → List Destination → List Move
copy_move k d rest = elim (nat_lt k IN_REGISTERS) [ true ↦ move_from k (last_to (register_of d) rest) | false ↦ [] ]

abbrev pub copy_moves : ℕ → List Destination → List Move
copy_moves k [] = []
copy_moves k (d ∷ rest) = copy_move k d rest ++ copy_moves (suc k) rest

-- a register comes first that is a destination again, so that the first value may come nowhere
abbrev pub begins_idle : List Destination → Bool
begins_idle [] = false
begins_idle (d ∷ rest) = is_some (register_of d) && not (is_some (last_to (register_of d) rest))

-- from the argument area to a register
abbrev pub is_loaded : ℕ → Destination → List Destination → Bool
is_loaded k d rest = nat_le IN_REGISTERS k && is_some (last_to (register_of d) rest)

-- ---- the most instructions

abbrev pub cost_of : Destination → ℕ
cost_of (Place p) = 4
cost_of (Register l) = 5

abbrev pub cost_if : Bool → Destination → ℕ
cost_if true d = cost_of d
cost_if false d = 0

abbrev pub copy_cost : List Destination → ℕ
copy_cost [] = 0
copy_cost (d ∷ rest) = cost_of d + copy_cost rest

abbrev pub store_cost : List Destination → ℕ
store_cost [] = 0
store_cost (d ∷ rest) = cost_if (is_stored d) d + store_cost rest

abbrev pub load_cost : ℕ → List Destination → ℕ
load_cost k [] = 0
load_cost k (d ∷ rest) = cost_if (is_loaded k d rest) d + load_cost (suc k) rest

-- ---- the fewest

abbrev pub stored_count : List Destination → ℕ
stored_count [] = 0
stored_count (d ∷ rest) = one_if (is_stored d) + stored_count rest

abbrev pub copy_least : List Destination → ℕ
copy_least to = stored_count to + one_if (begins_moving (copy_moves 0 to))

-- ---- what is done

abbrev pub CopiesIf : Bool → (ℕ → ℕ) → Destination → ℕ → State → State → Type 0
CopiesIf true at to n s t = PutsTo at to n s t
CopiesIf false at to n s t = s ≡ t

-- what memory and registers have once a number is put, and once all are; registers 2 and 4 have these addresses
abbrev pub put_memory : (ℕ → ℕ) → Destination → ℕ → ℕ → ℕ → (ℕ → ℕ) → ℕ → ℕ
put_memory at (Place (Slot o)) n frame region m = stored m (frame + o) 8 n
put_memory at (Place (Saved r)) n frame region m = m
put_memory at (Place (Temp r)) n frame region m = m
put_memory at (Register l) n frame region m = stored m (region + at l.number) 8 n

abbrev pub after_memory : (ℕ → ℕ) → List (Destination × ℕ) → ℕ → ℕ → (ℕ → ℕ) → ℕ → ℕ
after_memory at [] frame region m = m
after_memory at ((to, n) ∷ rest) frame region m = after_memory at rest frame region (put_memory at to n frame region m)

abbrev pub put_register : Option ℕ → ℕ → (ℕ → ℕ) → ℕ → ℕ
put_register None n g r = g r
put_register (Some k) n g r = if r == k then n else g r

abbrev pub after_registers : List (Destination × ℕ) → (ℕ → ℕ) → ℕ → ℕ
after_registers [] g = g
after_registers ((to, n) ∷ rest) g = after_registers rest (put_register (register_of to) n g)

pub record HasAllTo (at : ℕ → ℕ) (list : List (Destination × ℕ)) (s t : State) : Type 0 where
  pub registers : (r : ℕ) → is_scratch r ≡ false → t.registers r ≡ after_registers list s.registers r
  pub memory : t.memory ≡ after_memory at list (s.registers FRAME) (s.registers REGION) s.memory

-- what goes to memory is there, and the values are where they were
pub record HasStored (region : Region) (at : ℕ → ℕ) (to : List Destination) (s t : State) : Type 0 where
  pub registers : KeepsBut is_scratch s t
  pub memory : t.memory ≡ after_memory at (values_to region 0 to s) (s.registers FRAME) (s.registers REGION) s.memory
  pub values : (k : ℕ) → k < 64 → word_at t (value_place region k) ≡ word_at s (value_place region k)

-- registers that are destinations for good have their values, and no others are changed
pub record HasArrived (region : Region) (at : ℕ → ℕ) (come : ℕ → Bool) (to : List Destination) (s t : State) : Type 0 where
  pub arrive : (k r : ℕ) (d : Destination) → slice_get to k ≡ Some d → last_to (register_of d) (drop (suc k) to) ≡ Some r → come k ≡ true → t.registers r ≡ word_at s (value_place region k)
  pub registers : (r : ℕ) → is_scratch r ≡ false →
      ((k : ℕ) (d : Destination) → slice_get to k ≡ Some d → last_to (register_of d) (drop (suc k) to) ≡ Some r → come k ≡ false) → t.registers r ≡ s.registers r
  pub memory : t.memory ≡ s.memory

-- the values that came are put into the destinations, one after the other; where there are no destinations, there is no instruction
pub record CopiesAll (least most size : ℕ) (to : List Destination) (x : Code) (from on : ℕ) : Type 0 where
  pub none : to ≡ [] → from ≡ on
  pub all : All (IsGlobalBy x.at) to → (region : Region) → PassesBy least most (HasRegion region size) (λ s t. PutsEachTo x.at (values_to region 0 to s) s t) x from on
