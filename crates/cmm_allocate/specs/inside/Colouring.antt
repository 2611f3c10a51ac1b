-- Registers by colours, and the slots of the locals that have none.
use Rattle.std.specs.Prelude.{◌≡◌, ◌⊎◌, ℕ, ◌+◌, ◌*◌, ◌<◌, ◌≤◌, ◌&&◌, Bool, true, false, List, length, map, slice_index_or, is_none, is_some, Option, Some, None}
use Rattle.std.specs.List.{range_with_len}
use Rattle.cmm_abi.specs.Registers.{callee_saves}
use Rattle.cmm_bitset.specs.Sets.{has, union}
use Rattle.cmm_chain.specs.declared.frame.Location.{Location}
use Rattle.cmm_chain.specs.declared.frame.Location.TheVariants.{Slot, Saved, Temp}
use Rattle.cmm_colour.specs.Colours.{AreColours, colour_of}
use Rattle.cmm_graph.specs.declared.graph.Graph.{Graph}
use Rattle.cmm_live.specs.declared.live_sets.LiveSets.{LiveSets}
use Rattle.cmm_live.specs.Interference.{AreConflictsWithin}
use Rattle.cmm_located.specs.Layouts.{slot_offsets}
use Rattle.cmm_allocate.specs.Allocated.{temporaries}
use Rattle.cmm_allocate.specs.Placed.{place_at}
use Rattle.cmm_allocate.specs.inside.Classing.{AreClasses}

-- a graph of the conflicts of a class, and colours for it
pub record IsColoured (g : Graph) (class : List Bool) (k : ℕ) (colours : List (Option ℕ)) : Type 0 where
  pub graph : List (List ℕ)
  pub conflicts : AreConflictsWithin g class graph
  pub colours_are : AreColours graph k colours

-- both classes, and colours for each by its registers
pub record AreApart (g : Graph) (live : LiveSets) (first : List Bool) (colours : List (Option ℕ)) (second : List Bool) (others : List (Option ℕ)) : Type 0 where
  pub classes : AreClasses g live first second
  pub first_coloured : IsColoured g first (length temporaries) colours
  pub second_coloured : IsColoured g second (length callee_saves) others

abbrev pub lacks_colour : List Bool → List (Option ℕ) → ℕ → Bool
lacks_colour class colours v = has class v && is_none (colour_of colours v)

-- of the numbers below a count, a set has the members of a class that have no colour
pub record HaveNoColour (class : List Bool) (colours : List (Option ℕ)) (count : ℕ) (left : List Bool) : Type 0 where
  pub size_is : length left ≡ length class
  pub below : (v : ℕ) → v < count → has left v ≡ lacks_colour class colours v
  pub past : (v : ℕ) → count ≤ v → has left v ≡ false

-- each member of a class that has a colour has one among others
abbrev pub AreKept : List Bool → List (Option ℕ) → List (Option ℕ) → Type 0
AreKept class colours others = (v : ℕ) → has class v ≡ true → is_some (colour_of colours v) ≡ true → is_some (colour_of others v) ≡ true

-- A class and more locals are coloured together: so they share the callee-saves registers, if each member of the class that has one without them is kept
-- one, and else the class has them alone.
pub record IsShared (g : Graph) (class : List Bool) (colours : List (Option ℕ)) (more second : List Bool) (others : List (Option ℕ)) : Type 0 where
  pub together : List (Option ℕ)
  pub coloured : IsColoured g (union class more) (length callee_saves) together
  pub outcome : (AreKept class colours together × (second ≡ union class more) × (others ≡ together))
      ⊎ ((AreKept class colours together → ⊥) × (second ≡ class) × (others ≡ colours))

-- colours by the temporary registers, and by the callee-saves registers, which those without a temporary one share
pub record AreRegisters (g : Graph) (live : LiveSets) (first : List Bool) (colours : List (Option ℕ)) (second : List Bool) (others : List (Option ℕ)) : Type 0 where
  pub class : List Bool
  pub alone : List (Option ℕ)
  pub apart : AreApart g live first colours class alone
  pub left : List Bool
  pub left_over : HaveNoColour first colours (length first) left
  pub shared : IsShared g class alone left second others

-- the register of a colour
abbrev pub with_colour : List ℕ → Option ℕ → Option ℕ
with_colour registers (Some c) = Some (slice_index_or registers c 0)
with_colour registers None = None

abbrev pub if_in : Bool → Option ℕ → Option ℕ
if_in true register = register
if_in false register = None

-- the register of a local of a class, if it has a colour
abbrev pub register_of : List Bool → List (Option ℕ) → List ℕ → ℕ → Option ℕ
register_of class colours registers v = if_in (has class v) (with_colour registers (colour_of colours v))

-- a temporary register, or else a callee-saves register
abbrev pub in_register : Option ℕ → Option ℕ → Option Location
in_register (Some r) saved = Some (Temp r)
in_register None (Some r) = Some (Saved r)
in_register None None = None

abbrev pub register_in : List Bool → List (Option ℕ) → List Bool → List (Option ℕ) → ℕ → Option Location
register_in first colours second others v = in_register (register_of first colours temporaries v) (register_of second others callee_saves v)

-- a register, or else the slot at an offset, which is then taken
abbrev pub home : Option Location → ℕ → Location
home (Some place) offset = place
home None offset = Slot offset

abbrev pub next_slot : Option Location → ℕ → ℕ
next_slot (Some place) offset = offset
next_slot None offset = offset + 8

-- a local is in its register, if it has one, and else in a slot
abbrev pub IsHome : Option Location → Location → Type 0
IsHome (Some register) place = place ≡ register
IsHome None place = (offset : ℕ) × (place ≡ Slot offset)

-- the first locals are laid: their slots have no gap, and end where the next one is to be
pub record AreHomes (register : ℕ → Option Location) (count : ℕ) (locals : List Location) (end : ℕ) : Type 0 where
  pub length_is : length locals ≡ count
  pub each : (v : ℕ) → v < count → IsHome (register v) (place_at locals v)
  pub slots : slot_offsets locals ≡ map (λ i. 8 * i) (range_with_len 0 (length (slot_offsets locals)))
  pub end_is : end ≡ 8 * length (slot_offsets locals)
