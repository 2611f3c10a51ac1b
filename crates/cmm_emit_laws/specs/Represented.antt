-- Which states of the machine represent a located state, but for where control is.
use Rattle.cmm_select.specs.Switches.{EndsLow}
use Rattle.std.specs.Prelude.{◌≡◌, ◌⊎◌, ℕ, suc, ◌+◌, ◌-◌, replicate, slice_get, slice_index_or, Some, None, ◌%◌, ◌^◌, ◌<◌, ◌≤◌, true, List, [], ◌∷◌, length}
use Rattle.std.specs.List.{list_all}
use Rattle.cmm_abi.specs.declared.registers.TheConstants.{FRAME, REGION, RETURN_ADDRESS, ZERO}
use Rattle.cmm_abi.specs.Registers.{is_callee_saves, is_temporary}
use Rattle.cmm_chain.specs.Contents.{Content, Number}
use Rattle.cmm_chain.specs.Plans.{Plan, fixed_offsets, is_register}
use Rattle.cmm_chain.specs.Running.{Holdings, put_in}
use Rattle.cmm_program.specs.Memory.{Room}
use Rattle.cmm_chain.specs.declared.frame.Location.{Location}
use Rattle.cmm_chain.specs.declared.frame.Location.TheVariants.{Slot}
use Rattle.cmm_program.specs.Frames.{frame_address, frame_size}
use Rattle.cmm_program.specs.Layout.{data_bytes}
use Rattle.cmm_program.specs.State.{Setting, Activation, Store, stack_top}
use Rattle.cmm_machine_laws.specs.Stacks.{Extent, IsSet, IsStack, extent, stack_of, stackdata_at}
use Rattle.rv_asm.specs.declared.part.Label.{Label}
use Rattle.rv_table.specs.Machine.{LiesIn, MemoryMap, Region, State, data_base}
use Rattle.rv_table.specs.declared.memory_map.TheConstants.{BELOW_STACK}
use Rattle.cmm_select.specs.Operands.{operand_at}
use Rattle.cmm_select.specs.declared.operand.Operand.{Operand}
use Rattle.cmm_emit_laws.specs.Words.{Symbols, Represents, RepresentsWords, RepresentsCells, RepresentsRegisters, RepresentsRest, RepresentsValues}

-- the region whose stack is that of a setting
abbrev pub stack_region : Setting → Region
stack_region s = record { address = s.stack_base - BELOW_STACK; stack_size = s.stack_size }

-- the memory of the machine is that of a run of the program: the region of its stack lies in it, behind the data
pub record IsFor (s : Setting) (m : MemoryMap) : Type 0 where
  pub set : IsSet s
  pub lies : LiesIn (stack_region s) m
  pub small : stack_top s < 2 ^ 31
  pub data_length : m.data_length ≡ length (data_bytes s.program s.placement)
  pub region : data_base + m.data_length ≤ (stack_region s).address
  pub code : EndsLow m

-- Registers have the address of the youngest frame, that of the region, and the return address where it is known.
pub record RepresentsHoldings (y : Symbols) (r : Region) (h : Holdings) (registers : ℕ → ℕ) : Type 0 where
  pub zero : registers ZERO ≡ 0
  pub frame : registers FRAME ≡ h.point.at
  pub region : registers REGION ≡ r.address
  pub back : Represents y h.point.back (registers RETURN_ADDRESS)
  pub kept : (k : ℕ) → is_callee_saves k ≡ true → Represents y (h.point.kept k) (registers k)
  pub temps : (k : ℕ) → is_temporary k ≡ true → Represents y (h.temps k) (registers k)

-- Words, cells, global registers and the values that control brings are shown, and elsewhere memory is the rest. The frames of the store lie where the
-- machine has them.
pub record IsRepresented (y : Symbols) (rest : ℕ → ℕ) (s : Setting) (h : Holdings) (store : Store) (carried : List ℕ) (t : State) : Type 0 where
  pub holdings : RepresentsHoldings y (stack_region s) h t.registers
  pub words : RepresentsWords y (stack_region s) store.memory h.contents t.memory
  pub cells : RepresentsCells store.memory t.memory
  pub registers : RepresentsRegisters (stack_region s) store.registers t.memory
  pub elsewhere : RepresentsRest rest (stack_region s) store.memory.data_room t.memory
  pub values : RepresentsValues (stack_region s) carried t
  pub stack : IsStack s (stack_of store)
  pub at : h.point.at ≡ frame_address s store.activations

-- ---- what is required of an offset of a frame

-- eight bytes have none of an extent's
abbrev pub IsClear : ℕ → Extent → Type 0
IsClear a e = (i : ℕ) → i < 8 → (a + i < e.address) ⊎ (e.address + e.length ≤ a + i)

-- a word of a frame: a multiple of 8, inside the frame and apart from its stackdata
pub record IsWordAt (s : Setting) (a : Activation) (offset : ℕ) : Type 0 where
  pub aligned : offset % 8 ≡ 0
  pub inside : offset + 8 ≤ frame_size s a
  pub clear : (at : ℕ) → IsClear (at + offset) (stackdata_at s a at)

-- a place of a local is a word of the frame, or a register of its kind
abbrev pub IsPlaceOf : Setting → Activation → Location → Type 0
IsPlaceOf s a (Slot offset) = IsWordAt s a offset
IsPlaceOf s a l = is_register l ≡ true

abbrev pub AreWordsAt : Setting → Activation → List ℕ → Type 0
AreWordsAt s a [] = Unit {0}
AreWordsAt s a (offset ∷ rest) = IsWordAt s a offset × AreWordsAt s a rest

-- ---- words that are written into a frame: numbers at offsets represent contents at the same offsets

abbrev pub AreWritten : Symbols → List (ℕ × ℕ) → List (ℕ × Content) → Type 0
AreWritten y [] [] = Unit {0}
AreWritten y ((offset, n) ∷ numbers) ((place, c) ∷ words) = (offset ≡ place) × ((n < 2 ^ 64) × (Represents y c n × AreWritten y numbers words))
AreWritten y _ _ = ⊥

-- labels have the addresses that the symbols say, of the landings of a procedure from one on
abbrev pub AreLandings : Symbols → (ℕ → ℕ) → ℕ → ℕ → List Label → Type 0
AreLandings y address_of q k [] = Unit {0}
AreLandings y address_of q k (landing ∷ landings) = (address_of landing.number ≡ y.landing_of q k) × ((address_of landing.number < 2 ^ 64) × AreLandings y address_of q (suc k) landings)

-- A frame that is made for an activation is the procedure's, its words are words of it, and its stackdata comes unwritten.
pub record IsMade (y : Symbols) (s : Setting) (plan : Plan) (q : ℕ) (a : Activation) (room : Room) (address_of : ℕ → ℕ) (landings : List Label) (h : Holdings) : Type 0 where
  pub size : (plan.frame q).size ≡ frame_size s a
  pub fits : s.stack_base + (plan.frame q).size ≤ h.point.at
  pub words : AreWordsAt s a (fixed_offsets (plan.frame q))
  pub saves : list_all (λ word. is_callee_saves word.0) (plan.frame q).saved ≡ true
  pub stackdata : extent room ≡ stackdata_at s a (h.point.at - (plan.frame q).size)
  pub count : ℕ
  pub unwritten : room.cells ≡ replicate count None
  pub pairs : length landings ≡ length (plan.frame q).pairs
  pub addresses : AreLandings y address_of q 0 landings

-- ---- values that travel

-- places of an activation, each with a number of 64 bits
abbrev pub ArePlacesOf : Setting → Activation → List (Location × ℕ) → Type 0
ArePlacesOf s a [] = Unit {0}
ArePlacesOf s a ((place, n) ∷ rest) = IsPlaceOf s a place × ((n < 2 ^ 64) × ArePlacesOf s a rest)

-- numbers put into places, one after the other
abbrev pub put_each : List (Location × ℕ) → Holdings → Holdings
put_each [] h = h
put_each ((place, n) ∷ rest) h = put_each rest (put_in place (Number n) h)

-- operands have these values, of which there are at most 64, in code whose labels stand for these numbers
pub record IsGiven (address_of : ℕ → ℕ) (operands : List Operand) (values : List ℕ) (t : State) : Type 0 where
  pub few : length values ≤ 64
  pub count : length operands ≡ length values
  pub have : (k : ℕ) (operand : Operand) → slice_get operands k ≡ Some operand → operand_at address_of operand t ≡ slice_index_or values k 0
