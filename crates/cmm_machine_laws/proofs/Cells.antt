-- Laws of memory, over the cell at an address.
use Rattle.std.proofs.Common.{◌+◌, ◌≡◌, ℕ, suc, ◌==◌, ◌&&◌, cond, List, [], ◌∷◌, map, refl, arith}
use Rattle.std.proofs.lemmas.Bool.Decides.{nat_tests}
use Rattle.std.proofs.lemmas.Grind.{common_steps, get_or_head, get_or_tail}
use Rattle.std.proofs.lemmas.List.{get_or-replicate, length-replicate, drop-map}
use Rattle.cmm_program.specs.Memory.{Byte, Room, cell_in, with_byte_in, with_byte, rooms_of}
use Rattle.cmm_program.specs.Values.{is_there}
use Rattle.cmm_machine_laws.specs.Cells.{ReadAfterWrite, LackEach, OutsideStays, YoungerFirst, ComesUnwritten, WrittenThenGone}

-- a byte written in rooms is read again at its address, and every other cell stays
written_in : (rooms : List Room) (address byte at : ℕ) → cell_in (map (λ room. with_byte_in room address byte) rooms) at ≡
    cond (at == address && is_there (cell_in rooms at)) (Byte byte) (cell_in rooms at)
written_in [] address byte at = grind (arith, nat_tests)
written_in (room ∷ rooms) address byte at = grind (arith, nat_tests, common_steps, written_in rooms address byte at)

-- so too of several bytes, in memory
pub read_after_write : ReadAfterWrite
read_after_write m address [] at = grind (arith, nat_tests)
read_after_write m address (byte ∷ bytes) at =
    let rest = read_after_write (with_byte m address byte) (address + 1) bytes at in
    grind (arith, nat_tests, get_or_head, get_or_tail, rest, written_in (rooms_of m) address byte at)

-- rooms that lack an address stay when a byte is written there
pub outside_stays : OutsideStays
outside_stays [] at byte lack = refl
outside_stays (room ∷ rooms) at byte lack = grind (arith, outside_stays rooms at byte)

-- the younger rooms are read first
pub younger_first : YoungerFirst
younger_first [] older at = refl
younger_first (room ∷ younger) older at = grind (arith, younger_first younger older at)

-- rooms lack an address where each does
pub lack_each : LackEach
lack_each [] at each = refl
lack_each (room ∷ rooms) at each = grind (arith, each 0 room, lack_each rooms at (λ k d less. each (suc k) d (omega arith)))

-- a room that comes unwritten is read as unwritten
pub comes_unwritten : ComesUnwritten
comes_unwritten room size at cells is = grind (arith, nat_tests, get_or-replicate, length-replicate)

-- a write before rooms go is one after
pub written_then_gone : WrittenThenGone
written_then_gone m at byte count = grind (arith, drop-map)
