-- The stack of every state: its frames fit, stand one after the other, and each has its own continuations' pairs and
-- its own stackdata.
use Rattle.std.specs.Prelude.{◌≡◌, ℕ, suc, ◌+◌, ◌%◌, false, ◌<◌, ◌≤◌, List, [], ◌∷◌, map, drop, length, Some, None}
use Rattle.rv_table.specs.Memory.{data_base}
use Rattle.cmm_program.specs.Layout.{data_bytes}
use Rattle.cmm_program.specs.Memory.{Outside, Room, cell_in, is_in}
use Rattle.cmm_program.specs.State.{Setting, Activation, Store, stack_top}
use Rattle.cmm_program.specs.Frames.{procedure_at, place_row, frame_size, sum_of_sizes, frame_address, continuation_value, room_of, without}
use Rattle.cmm_program.specs.Placed.{IsPlaced}
use Rattle.cmm_program.specs.Machine.{state_after}

-- where a room lies, and how many bytes it has
pub record Extent : Type 0 where
  pub address : ℕ
  pub length : ℕ

-- the extent of a room
abbrev pub extent : Room → Extent
extent room = record { address = room.address; length = length room.cells }

-- the frames of a store, youngest first, and where its data and its rooms lie
pub record Stack : Type 0 where
  pub activations : List Activation
  pub data_room : Extent
  pub rooms : List Extent

-- the stack of a store
abbrev pub stack_of : Store → Stack
stack_of store = record { activations = store.activations; data_room = extent store.memory.data_room; rooms = map extent store.memory.rooms }

-- the stackdata of an activation whose frame is at an address, without bytes where it has no label
abbrev pub stackdata_at : Setting → Activation → ℕ → Extent
stackdata_at s a address = elim (procedure_at s a.procedure) [
  | Some p ↦ extent (room_of address p (place_row s a.procedure))
  | None ↦ record { address = address; length = 0 }
]

-- the stackdata of each of these frames, the youngest first
abbrev pub stackdata_of : Setting → List Activation → List Extent
stackdata_of s [] = []
stackdata_of s (a ∷ older) = stackdata_at s a (frame_address s (a ∷ older)) ∷ stackdata_of s older

-- the frames fit the stack, the rooms are the stackdata of the frames, one a frame, and data lies at its place
pub record IsStack (s : Setting) (stack : Stack) : Type 0 where
  pub fits : sum_of_sizes s stack.activations ≤ s.stack_size
  pub rooms : stack.rooms ≡ stackdata_of s stack.activations
  pub data_room : stack.data_room ≡ record { address = data_base; length = length (data_bytes s.program s.placement) }

-- What holds of every stack that is as it should be, whatever machine it belongs to, and so of the stack of every state of every
-- run of the C-- machine, also when some of its youngest activations are left out.
pub record OfEachStack (P : Setting → Stack → Type 0) : Type 0 where
  pub of_stack : (s : Setting) (stack : Stack) → IsStack s stack → P s stack
  pub in_state : (s : Setting) (input : List ℕ) (m younger : ℕ) → P s (stack_of (without younger (state_after s input m).store))

-- the stack of each state is as it should be, whatever the placement
abbrev pub EachStateHasStack : Type 0
EachStateHasStack = OfEachStack IsStack

-- there are as many rooms as activations
abbrev pub OneRoomEach : Type 0
OneRoomEach = OfEachStack (λ s stack. length stack.rooms ≡ length stack.activations)

-- a stack without some of its youngest activations is one
abbrev pub OlderAreStack : Type 0
OlderAreStack = OfEachStack (λ s stack. (younger : ℕ) →
    IsStack s record stack { activations = drop younger stack.activations; rooms = drop younger stack.rooms })

-- the frames reach from the address of the youngest up to the top
abbrev pub FramesReachTop : Type 0
FramesReachTop = OfEachStack (λ s stack. frame_address s stack.activations + sum_of_sizes s stack.activations ≡ stack_top s)

-- a frame ends where the next older one begins
abbrev pub FramesAdjoin : Type 0
FramesAdjoin = OfEachStack (λ s stack. (a : Activation) (older : List Activation) → stack.activations ≡ a ∷ older →
    frame_address s (a ∷ older) + frame_size s a ≡ frame_address s older)

-- ---- on a valid placement

-- what a run stands on: a valid placement, and a stack whose top is a multiple of 16
pub record IsSet (s : Setting) : Type 0 where
  pub placed : IsPlaced s.program s.placement
  pub aligned : stack_top s % 16 ≡ 0

-- each frame begins at a multiple of 16 inside the stack
abbrev pub FramesAreAligned : Type 0
FramesAreAligned = OfEachStack (λ s stack. IsSet s →
    let address = frame_address s stack.activations in (address % 16 ≡ 0) × (s.stack_base ≤ address) × (address ≤ stack_top s))

-- ---- whose address is whose

-- a part of the youngest activation: the pair of a continuation, or its room
pub data IsPart (s : Setting) (activations : List Activation) (rooms : List Extent) (part : Extent) : Type 0 where
  Pair : (a : Activation) (older : List Activation) (k : ℕ) → activations ≡ a ∷ older → k < length (place_row s a.procedure).pairs →
      part ≡ record { address = continuation_value s activations k; length = 16 } → IsPart s activations rooms part
  Stackdata : (older : List Extent) → rooms ≡ part ∷ older → IsPart s activations rooms part

-- a part lies inside the youngest of these frames
abbrev pub LiesIn : Setting → List Activation → Extent → Type 0
LiesIn s activations part = (frame_address s activations ≤ part.address) × (part.address + part.length ≤ frame_address s (drop 1 activations))

-- each part lies inside its own frame
abbrev pub PartsLieInFrame : Type 0
PartsLieInFrame = OfEachStack (λ s stack. IsSet s → (part : Extent) → IsPart s stack.activations stack.rooms part → LiesIn s stack.activations part)

-- and so ends before any part of an older activation
abbrev pub PartsLieApart : Type 0
PartsLieApart = OfEachStack (λ s stack. IsSet s → (n : ℕ) (part other : Extent) → IsPart s stack.activations stack.rooms part →
    IsPart s (drop (suc n) stack.activations) (drop (suc n) stack.rooms) other → part.address + part.length ≤ other.address)

-- all lie in the stack, so behind data if that ends below the stack
abbrev pub PartsLieInStack : Type 0
PartsLieInStack = OfEachStack (λ s stack. IsSet s → (part : Extent) → IsPart s stack.activations stack.rooms part →
    (s.stack_base ≤ part.address) × (part.address + part.length ≤ stack_top s)
    × (data_base + length (data_bytes s.program s.placement) ≤ s.stack_base → stack.data_room.address + stack.data_room.length ≤ part.address))

-- ---- what stands nowhere

-- below the frames there is no stackdata
abbrev pub NoneBelow : Type 0
NoneBelow = (s : Setting) (store : Store) (at : ℕ) → IsStack s (stack_of store) → at < frame_address s store.activations →
    cell_in store.memory.rooms at ≡ Outside

-- in the youngest frame there is its own stackdata alone
abbrev pub OwnAlone : Type 0
OwnAlone = (s : Setting) (store : Store) (a : Activation) (older : List Activation) (room : Room) (rooms : List Room) (at : ℕ) →
    IsStack s (stack_of store) → store.activations ≡ a ∷ older → store.memory.rooms ≡ room ∷ rooms → at < frame_address s older →
    is_in room at ≡ false → cell_in store.memory.rooms at ≡ Outside
