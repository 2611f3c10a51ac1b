-- A sink over bytes that are lent to it.
use Rattle.std.specs.Prelude.{ℕ, ◌-◌, List, length, take}
use Rattle.cmm_outside.specs.declared.fixed_sink.FixedSink.{FixedSink}

-- the lent bytes, as they are now
abbrev pub room_of : FixedSink → List ℕ
room_of sink = sink.room.now

-- the bytes taken so far: the front of the room
abbrev pub bytes_of : FixedSink → List ℕ
bytes_of sink = take sink.taken (room_of sink)

-- for how many more bytes there is room
abbrev pub left_in : FixedSink → ℕ
left_in sink = length (room_of sink) - sink.taken
