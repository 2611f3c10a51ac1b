-- How the bytes and registers of the machine represent what words, cells and values hold.
use Rattle.std.specs.Prelude.{◌≡◌, ◌⊎◌, ℕ, ◌+◌, ◌-◌, ◌%◌, ◌<◌, ◌≤◌, Bool, true, false, List, [], ◌∷◌, length, slice_index_or, None}
use Rattle.cmm_chain.specs.Contents.{Content, Unknown, Number, ReturnTo, LandingOf, LastReturn, Contents}
use Rattle.cmm_program.specs.Memory.{Cell, Outside, Byte, Room, Memory, is_in, cell_of, cell_at, rooms_of}
use Rattle.cmm_abi.specs.Regions.{global_address, value_place, word_at}
use Rattle.rv_table.specs.Machine.{Region, State, bottom, loaded, top}

-- ---- words

-- the numbers that return addresses and landings have in finished code
pub record Symbols : Type 0 where
  -- the return address of a site, by the numbers of its procedure and of the site
  pub return_to : ℕ → ℕ → ℕ
  -- the code of a continuation, by the numbers of its procedure and of the continuation
  pub landing_of : ℕ → ℕ → ℕ
  pub last_return : ℕ

-- a number represents a content; nothing is required where none is known
abbrev pub Represents : Symbols → Content → ℕ → Type 0
Represents y Unknown n = Unit {0}
Represents y (Number a) n = n ≡ a
Represents y (ReturnTo q site) n = n ≡ y.return_to q site
Represents y (LandingOf q k) n = n ≡ y.landing_of q k
Represents y LastReturn n = n ≡ y.last_return

abbrev pub is_known : Content → Bool
is_known Unknown = false
is_known _ = true

-- eight bytes of the stack of a region, at a multiple of 8, none of which is data or stackdata
pub record Sits (r : Region) (memory : Memory) (address : ℕ) : Type 0 where
  pub aligned : address % 8 ≡ 0
  pub low : bottom r ≤ address
  pub high : address + 8 ≤ top r
  pub apart : (i : ℕ) → i < 8 → cell_at memory (address + i) ≡ Outside

-- every word of the stack that is known sits so, and its bytes represent it
pub record RepresentsWords (y : Symbols) (r : Region) (memory : Memory) (contents : Contents) (bytes : ℕ → ℕ) : Type 0 where
  pub sits : (a : ℕ) → is_known (contents a) ≡ true → Sits r memory a
  pub shown : (a : ℕ) → Represents y (contents a) (loaded bytes a 8)

-- ---- cells: a byte is shown where one was written

abbrev pub RepresentsCell : Cell → ℕ → Type 0
RepresentsCell (Byte byte) n = n ≡ byte
RepresentsCell _ n = Unit {0}

abbrev pub RepresentsRoom : Room → (ℕ → ℕ) → Type 0
RepresentsRoom room bytes = (a : ℕ) → is_in room a ≡ true → RepresentsCell (cell_of (slice_index_or room.cells (a - room.address) None)) (bytes a)

abbrev pub RepresentsRooms : List Room → (ℕ → ℕ) → Type 0
RepresentsRooms [] bytes = Unit {0}
RepresentsRooms (room ∷ rooms) bytes = RepresentsRoom room bytes × RepresentsRooms rooms bytes

abbrev pub RepresentsCells : Memory → (ℕ → ℕ) → Type 0
RepresentsCells memory bytes = RepresentsRooms (rooms_of memory) bytes

-- ---- below the stack of a region: the argument area, and a word for each global register

-- nothing of the program's memory stands there
abbrev pub IsRegionFree : Region → Memory → Type 0
IsRegionFree r memory = (a : ℕ) → r.address ≤ a → a < bottom r → cell_at memory a ≡ Outside

abbrev pub RepresentsRegisters : Region → List ℕ → (ℕ → ℕ) → Type 0
RepresentsRegisters r registers bytes =
    (length registers ≤ 256) × ((k : ℕ) → k < length registers → loaded bytes (global_address r k) 8 ≡ slice_index_or registers k 0)

-- ---- elsewhere: memory that is no data and lies outside of a region, such as other stacks

abbrev pub RepresentsRest : (ℕ → ℕ) → Region → Room → (ℕ → ℕ) → Type 0
RepresentsRest rest r data_room bytes = (a : ℕ) → is_in data_room a ≡ false → (a < r.address) ⊎ (top r ≤ a) → bytes a ≡ rest a

-- ---- the values that control brings are where values travel

abbrev pub RepresentsValues : Region → List ℕ → State → Type 0
RepresentsValues r values t = (length values ≤ 64) × ((i : ℕ) → i < length values → word_at t (value_place r i) ≡ slice_index_or values i 0)
