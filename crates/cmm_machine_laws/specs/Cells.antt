-- What holds of memory, as seen by the cell at an address: after a write, across data and rooms, and when rooms come and
-- go. Nothing above needs to know how memory is kept. Data counts as the youngest of the rooms: it is looked into first.
use Rattle.std.specs.Prelude.{◌≡◌, ℕ, ◌+◌, ◌-◌, ◌&&◌, true, false, nat_le, nat_lt, List, [], ◌∷◌, ◌++◌, length, map, replicate, drop, slice_index_or, None}
use Rattle.std.specs.List.{All}
use Rattle.cmm_program.specs.Memory.{Outside, Unwritten, Byte, Room, Memory, is_in, cell_in, cell_at, with_byte_in, with_byte, with_bytes}
use Rattle.cmm_program.specs.Values.{is_there}

-- ---- after a write

-- Where bytes are written from an address on and anything stands, each is read again at its own; every other cell stays.
abbrev pub ReadAfterWrite : Type 0
ReadAfterWrite = (m : Memory) (address : ℕ) (bytes : List ℕ) (at : ℕ) → cell_at (with_bytes m address bytes) at ≡
    elim (nat_le address at && nat_lt at (address + length bytes) && is_there (cell_at m at))
    [ true ↦ Byte (slice_index_or bytes (at - address) 0) | false ↦ cell_at m at ]

-- a write leaves rooms that lack its address
abbrev pub OutsideStays : Type 0
OutsideStays = (rooms : List Room) (at byte : ℕ) → cell_in rooms at ≡ Outside → map (λ room. with_byte_in room at byte) rooms ≡ rooms

-- ---- data and rooms

-- an address is read from the younger of the rooms, and where they lack it from the older
abbrev pub YoungerFirst : Type 0
YoungerFirst = (younger older : List Room) (at : ℕ) →
    cell_in (younger ++ older) at ≡ elim (cell_in younger at) [ Outside ↦ cell_in older at | cell ↦ cell ]

-- rooms lack an address where each of them does
abbrev pub LackEach : Type 0
LackEach = (rooms : List Room) (at : ℕ) → All (λ room. is_in room at ≡ false) rooms → cell_in rooms at ≡ Outside

-- ---- rooms come and go

-- the cells inside a room that comes unwritten are unwritten
abbrev pub ComesUnwritten : Type 0
ComesUnwritten = (room : Room) (size at : ℕ) → room.cells ≡ replicate size None → is_in room at ≡ true → cell_in (room ∷ []) at ≡ Unwritten

-- memory without its youngest rooms
abbrev pub without_rooms : ℕ → Memory → Memory
without_rooms count m = record m { rooms = drop count m.rooms }

-- what is written before they go is there after, as if they had gone first
abbrev pub WrittenThenGone : Type 0
WrittenThenGone = (m : Memory) (at byte count : ℕ) → without_rooms count (with_byte m at byte) ≡ with_byte (without_rooms count m) at byte
