-- Memory: the bytes of data, and those of the stackdata of each present activation.
use Rattle.std.specs.Prelude.{ℕ, ◌<◌, ◌+◌, ◌-◌, ◌*◌, ◌&&◌, Bool, true, false, nat_lt, nat_le, List, [], ◌∷◌, length, map, slice_index_or, slice_set, Option, Some, None}

-- a byte
abbrev pub IsByte : ℕ → Type 0
IsByte n = n < 256

-- what stands at an address
pub data Cell : Type 0 where
  -- neither data nor stackdata of a present activation
  Outside : Cell
  -- stackdata that was not written since its activation began
  Unwritten : Cell
  Byte : ℕ → Cell

-- bytes from an address on, or none where nothing was written yet
pub record Room : Type 0 where
  pub address : ℕ
  pub cells : List (Option ℕ)

-- the room of data, and one of stackdata for each activation, youngest first
pub record Memory : Type 0 where
  pub data_room : Room
  pub rooms : List Room

-- all rooms
abbrev pub rooms_of : Memory → List Room
rooms_of memory = memory.data_room ∷ memory.rooms

abbrev pub is_in : Room → ℕ → Bool
is_in room address = nat_le room.address address && nat_lt address (room.address + length room.cells)

abbrev pub cell_of : Option ℕ → Cell
cell_of (Some byte) = Byte byte
cell_of None = Unwritten

-- the cell at an address
abbrev pub cell_in : List Room → ℕ → Cell
cell_in [] address = Outside
cell_in (room ∷ rooms) address = elim (is_in room address) [
  | true ↦ cell_of (slice_index_or room.cells (address - room.address) None)
  | false ↦ cell_in rooms address
]

abbrev pub cell_at : Memory → ℕ → Cell
cell_at memory address = cell_in (rooms_of memory) address

abbrev pub with_byte_in : Room → ℕ → ℕ → Room
with_byte_in room address byte = elim (is_in room address) [
  | true ↦ record room { cells = slice_set room.cells (address - room.address) (Some byte) }
  | false ↦ room
]

-- memory with a byte at an address; the same where nothing stands there
abbrev pub with_byte : Memory → ℕ → ℕ → Memory
with_byte memory address byte = record memory {
  data_room = with_byte_in memory.data_room address byte;
  rooms = map (λ room. with_byte_in room address byte) memory.rooms;
}

-- memory with bytes from an address on
abbrev pub with_bytes : Memory → ℕ → List ℕ → Memory
with_bytes memory address [] = memory
with_bytes memory address (byte ∷ bytes) = with_bytes (with_byte memory address byte) (address + 1) bytes

-- the number that some bytes spell, the lowest first
abbrev pub number_of : List ℕ → ℕ
number_of [] = 0
number_of (byte ∷ bytes) = byte + 256 * number_of bytes
