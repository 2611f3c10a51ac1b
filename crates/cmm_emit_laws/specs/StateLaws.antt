-- What changes of the machine represent of a located state: one law a change. A law that speaks of the youngest activation has it as the first of the
-- store's.
use Rattle.std.specs.Prelude.{◌≡◌, ℕ, ◌+◌, ◌%◌, ◌<◌, ◌≤◌, ◌^◌, ◌==◌, ◌||◌, true, List, [], ◌∷◌, drop, length, map, slice_index_or, slice_set, Some, Ok}
use Rattle.std.specs.List.{All, range_with_len}
use Rattle.cmm_abi.specs.declared.registers.TheConstants.{FRAME, REGION, RETURN_ADDRESS, ZERO}
use Rattle.cmm_abi.specs.Regions.{global_address}
use Rattle.cmm_chain.specs.declared.frame.Location.{Location}
use Rattle.cmm_chain.specs.Chain.{behind}
use Rattle.cmm_abi.specs.Registers.{is_callee_saves, is_scratch}
use Rattle.cmm_chain.specs.Contents.{Unknown, Number, ReturnTo, LastReturn}
use Rattle.cmm_chain.specs.Plans.{Plan, saved_at}
use Rattle.cmm_chain.specs.Running.{Holdings, entered, held, none_known}
use Rattle.cmm_program.specs.Errors.{all_of}
use Rattle.cmm_program.specs.Frames.{frame_address, frame_size, without}
use Rattle.cmm_program.specs.Layout.{bytes_of, data_bytes}
use Rattle.cmm_program.specs.Machine.{first_store}
use Rattle.cmm_program.specs.Memory.{IsByte, Room, cell_at, number_of, with_bytes}
use Rattle.cmm_program.specs.State.{Setting, Activation, Store, stack_top}
use Rattle.cmm_program.specs.Values.{byte_of, is_there}
use Rattle.rv_asm.specs.declared.part.Label.{Label}
use Rattle.rv_table.specs.Bounds.{IsSound}
use Rattle.rv_table.specs.Machine.{MemoryMap, State, data_base, is_accessible, loaded, stored}
use Rattle.cmm_effects.specs.Changes.{CanReach, KeepsBut, Writes, read_at}
use Rattle.cmm_calls.specs.Frames.{Leaves, Makes, PutsEach, fixed_numbers}
use Rattle.cmm_calls.specs.Values.{Gives}
use Rattle.cmm_select.specs.declared.operand.Operand.{Operand}
use Rattle.cmm_emit_laws.specs.Words.{RepresentsRest, Symbols}
use Rattle.cmm_emit_laws.specs.Represented.{ArePlacesOf, IsFor, IsGiven, IsMade, IsPlaceOf, IsRepresented, put_each, stack_region}

-- ---- places of the youngest activation

-- a place that holds a number has it
abbrev pub PlacesAreRead : Type 0
PlacesAreRead = (y : Symbols) (rest : ℕ → ℕ) (s : Setting) (m : MemoryMap) (h : Holdings) (store : Store) (carried : List ℕ) (a : Activation) (older : List Activation) (t : State) →
    IsFor s m → store.activations ≡ a ∷ older → IsRepresented y rest s h store carried t → (place : Location) (n : ℕ) → IsPlaceOf s a place → held h place ≡ Number n →
    read_at place t ≡ n

-- instructions reach it
abbrev pub PlacesAreReached : Type 0
PlacesAreReached = (y : Symbols) (rest : ℕ → ℕ) (s : Setting) (m : MemoryMap) (h : Holdings) (store : Store) (carried : List ℕ) (a : Activation) (older : List Activation) (t : State) →
    IsFor s m → store.activations ≡ a ∷ older → IsRepresented y rest s h store carried t → (place : Location) → IsPlaceOf s a place → CanReach place m t

-- numbers are put into places, one after the other
abbrev pub PutsAreRepresented : Type 0
PutsAreRepresented = (y : Symbols) (rest : ℕ → ℕ) (s : Setting) (m : MemoryMap) → IsFor s m → (list : List (Location × ℕ)) (h : Holdings) (store : Store) (a : Activation) (older : List Activation)
    (t t' : State) → store.activations ≡ a ∷ older → ArePlacesOf s a list → PutsEach list t t' → IsRepresented y rest s h store [] t → IsRepresented y rest s (put_each list h) store [] t'

-- ---- global registers

abbrev pub RegistersAreRead : Type 0
RegistersAreRead = (y : Symbols) (rest : ℕ → ℕ) (s : Setting) (h : Holdings) (store : Store) (r : ℕ) (t : State) (carried : List ℕ) → r < length store.registers →
    IsRepresented y rest s h store carried t → loaded t.memory (global_address (stack_region s) r) 8 ≡ slice_index_or store.registers r 0

abbrev pub RegisterPutsAreRepresented : Type 0
RegisterPutsAreRepresented = (y : Symbols) (rest : ℕ → ℕ) (s : Setting) (m : MemoryMap) (h : Holdings) (store : Store) (r n : ℕ) (t t' : State) → IsFor s m → r < length store.registers → n < 2 ^ 64 →
    Writes (global_address (stack_region s) r) 8 n t t' → IsRepresented y rest s h store [] t → IsRepresented y rest s h (record store { registers = slice_set store.registers r n }) [] t'

-- ---- data and stackdata

-- where every byte of an aligned access stands, instructions reach it
abbrev pub CellsAreReached : Type 0
CellsAreReached = (s : Setting) (m : MemoryMap) (y : Symbols) (rest : ℕ → ℕ) (h : Holdings) (store : Store) (carried : List ℕ) (t : State) (address size : ℕ) → IsFor s m →
    IsRepresented y rest s h store carried t → 1 ≤ size → size ≤ 8 → (address % size == 0) ≡ true → ((i : ℕ) → i < size → is_there (cell_at store.memory (address + i)) ≡ true) →
    is_accessible m address size ≡ true

-- what is loaded is the number that the cells spell
abbrev pub LoadsAreRepresented : Type 0
LoadsAreRepresented = (y : Symbols) (rest : ℕ → ℕ) (s : Setting) (h : Holdings) (store : Store) (carried : List ℕ) (t : State) (size address : ℕ) (found : List ℕ) →
    IsRepresented y rest s h store carried t → all_of (map (λ k. byte_of (cell_at store.memory k)) (range_with_len address size)) ≡ Ok found → loaded t.memory address size ≡ number_of found

-- a number is stored where cells stand
abbrev pub StoresAreRepresented : Type 0
StoresAreRepresented = (y : Symbols) (rest : ℕ → ℕ) (s : Setting) (m : MemoryMap) → IsFor s m → (h : Holdings) (store : Store) (t t' : State) (address size n : ℕ) → 1 ≤ size →
    ((i : ℕ) → i < size → is_there (cell_at store.memory (address + i)) ≡ true) → Writes address size n t t' → IsRepresented y rest s h store [] t →
    IsRepresented y rest s h (record store { memory = with_bytes store.memory address (bytes_of size n) }) [] t'

-- bytes are written where data lies, however many they are
abbrev pub DataIsWritten : Type 0
DataIsWritten = (y : Symbols) (rest : ℕ → ℕ) (s : Setting) (m : MemoryMap) → IsFor s m → (h : Holdings) (store : Store) (t : State) (address : ℕ) (bytes : List ℕ) → All IsByte bytes →
    data_base ≤ address → address + length bytes ≤ data_base + m.data_length → IsRepresented y rest s h store [] t →
    IsRepresented y rest s h (record store { memory = with_bytes store.memory address bytes }) [] (record t { memory = stored t.memory address (length bytes) (number_of bytes) })

-- ---- frames come and go

-- the frame of an activation is made
abbrev pub FramesComeRepresented : Type 0
FramesComeRepresented = (y : Symbols) (rest : ℕ → ℕ) (s : Setting) (m : MemoryMap) (plan : Plan) (q : ℕ) (h : Holdings) (store : Store) (carried : List ℕ) (a : Activation) (room : Room)
    (address_of : ℕ → ℕ) (landings : List Label) (t t' : State) → IsFor s m → IsMade y s plan q a room address_of landings h → IsSound t →
    Makes (plan.frame q).size (fixed_numbers address_of (plan.frame q) landings t.registers (t'.registers FRAME)) t t' → IsRepresented y rest s h store carried t →
    IsRepresented y rest s (entered plan q h.point h.contents)
    (record store { activations = a ∷ store.activations; memory = record store.memory { rooms = room ∷ store.memory.rooms } }) carried t'

-- the frame of the youngest activation is left
abbrev pub FramesGoRepresented : Type 0
FramesGoRepresented = (y : Symbols) (rest : ℕ → ℕ) (s : Setting) (m : MemoryMap) (plan : Plan) (q : ℕ) (h : Holdings) (store : Store) (carried : List ℕ) (a : Activation) (older : List Activation)
    (t t' : State) → IsFor s m → store.activations ≡ a ∷ older → (plan.frame q).size ≡ frame_size s a →
    ((r offset : ℕ) → saved_at plan q r ≡ Some offset → is_callee_saves r ≡ true) → Leaves (plan.frame q) t t' → IsRepresented y rest s h store carried t →
    IsRepresented y rest s (record { point = behind plan h.contents q h.point; temps = none_known; contents = h.contents }) (without 1 store) carried t'

-- ---- control leaves with its values

-- values go out to where they travel, and nothing is known of temporary registers any more
abbrev pub ValuesAreGiven : Type 0
ValuesAreGiven = (y : Symbols) (rest : ℕ → ℕ) (s : Setting) (m : MemoryMap) (h : Holdings) (store : Store) (values : List ℕ) (address_of : ℕ → ℕ) (operands : List Operand) (t t' : State) →
    IsFor s m → Gives (stack_region s) address_of operands t t' → IsGiven address_of operands values t → IsRepresented y rest s h store [] t → IsRepresented y rest s (record h { temps = none_known }) store values t'

-- a call: register 1 gets the return address of the site
abbrev pub CallsAreRepresented : Type 0
CallsAreRepresented = (y : Symbols) (rest : ℕ → ℕ) (s : Setting) (m : MemoryMap) → IsFor s m → (h : Holdings) (store : Store) (values : List ℕ) (t t' : State) (q site : ℕ) →
    t'.registers RETURN_ADDRESS ≡ y.return_to q site → t'.memory ≡ t.memory → KeepsBut (λ r. (r == RETURN_ADDRESS) || is_scratch r) t t' → IsRepresented y rest s h store values t →
    IsRepresented y rest s (record { point = record h.point { back = ReturnTo q site }; temps = none_known; contents = h.contents }) store values t'

-- a cut: register 2 gets the address of an older frame, and no register is restored
abbrev pub CutsAreRepresented : Type 0
CutsAreRepresented = (y : Symbols) (rest : ℕ → ℕ) (s : Setting) (m : MemoryMap) → IsFor s m → (h : Holdings) (store : Store) (values : List ℕ) (t t' : State) (at younger : ℕ) →
    t'.registers FRAME ≡ at → t'.memory ≡ t.memory → KeepsBut (λ r. (r == RETURN_ADDRESS) || ((r == FRAME) || is_scratch r)) t t' → at ≡ frame_address s (drop younger store.activations) →
    IsRepresented y rest s h store values t →
    IsRepresented y rest s (record { point = record { at = at; back = Unknown; kept = h.point.kept }; temps = none_known; contents = h.contents }) (without younger store) values t'

-- ---- the start

-- A run begins with the data of the program, registers that are 0, and an empty stack, from which `main` returns for the last time.
pub record Begins (y : Symbols) (s : Setting) (t : State) : Type 0 where
  pub zero : t.registers ZERO ≡ 0
  pub back : t.registers RETURN_ADDRESS ≡ y.last_return
  pub frame : t.registers FRAME ≡ stack_top s
  pub region : t.registers REGION ≡ (stack_region s).address
  pub few : length s.program.globals ≤ 256
  pub globals : (r : ℕ) → r < length s.program.globals → loaded t.memory (global_address (stack_region s) r) 8 ≡ 0
  pub data_bytes : (i : ℕ) → i < length (data_bytes s.program s.placement) → t.memory (data_base + i) ≡ slice_index_or (data_bytes s.program s.placement) i 0

abbrev pub StartsAreRepresented : Type 0
StartsAreRepresented = (y : Symbols) (rest : ℕ → ℕ) (s : Setting) (m : MemoryMap) (input : List ℕ) (t : State) → IsFor s m → Begins y s t →
    RepresentsRest rest (stack_region s) (first_store s input).memory.data_room t.memory →
    IsRepresented y rest s (record { point = record { at = stack_top s; back = LastReturn; kept = none_known }; temps = none_known; contents = none_known }) (first_store s input) [] t
