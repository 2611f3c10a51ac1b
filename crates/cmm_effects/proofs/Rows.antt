-- Worked rows: a frame at 0x60001000 with a word at offset 8 that is put, and a register that is put.
use Rattle.std.proofs.Common.{◌≡◌, ◌+◌, [], refl, true, false, lit<}
use Rattle.cmm_chain.specs.declared.frame.Location.TheVariants.{Slot, Saved, Temp}
use Rattle.rv_table.specs.Machine.{MemoryMap, State, stored, with_set}
use Rattle.rv_table.specs.declared.request.Request.TheVariants.{GetByte}
use Rattle.cmm_effects.specs.Accesses.{CanReachGlobal, PutsGlobal, global_at}
use Rattle.cmm_effects.specs.Requests.{IsAnswered, is_of_request}
use Rattle.rv_table.specs.Registers.{with_register}
use Rattle.cmm_abi.specs.Registers.{is_scratch}
use Rattle.cmm_effects.specs.Changes.{CanReach, Puts, read_at}

abbrev map : MemoryMap
map = record { code = []; data_length = 16; region_length = 0x1040 }

abbrev before : State
before = record { registers = with_register (λ r. 100 + r) 2 0x60001000; pc = 0x10000; memory = λ a. 0 }

abbrev slot_put : State
slot_put = record before { memory = stored before.memory 0x60001008 8 0x1234 }

abbrev register_put : State
register_put = record before { registers = with_register before.registers 9 7 }

number_is_put : Puts (Slot 8) 0x1234 before slot_put
number_is_put = record { registers = λ r is. refl; memory = refl }

slot_is_put : read_at (Slot 8) slot_put ≡ 0x1234
slot_is_put = refl

neighbour_is_kept : read_at (Slot 0) slot_put ≡ 0
neighbour_is_kept = refl

register_is_put : read_at (Saved 9) register_put ≡ 7
register_is_put = refl

other_is_kept : read_at (Temp 28) register_put ≡ 128
other_is_kept = refl

-- the last word of a stack of 64 bytes is reached, and the next one isn't
last_is_reached : CanReach (Slot 56) map before
last_is_reached = (lit< tt, refl)

scratch_ends_at_7 : is_scratch 8 ≡ false
scratch_ends_at_7 = refl

-- ---- global registers, in the region at 0x60000000, and requests

abbrev at_region : State
at_region = record before { registers = with_register before.registers 4 0x60000000 }

abbrev global_put : State
global_put = record at_region { memory = stored at_region.memory 0x600001c8 8 0x1234 }

global_is_put : PutsGlobal 456 0x1234 at_region global_put
global_is_put = record { registers = λ r is. refl; memory = refl }

global_is_read : global_at 456 global_put ≡ 0x1234
global_is_read = refl

-- the first one, behind the argument area
global_is_reached : CanReachGlobal 448 map at_region
global_is_reached = (lit< tt, refl)

byte_is_taken : IsAnswered GetByte before (with_set before 10 65)
byte_is_taken = (65, lit< tt, refl)

request_uses_10 : is_of_request 10 ≡ true
request_uses_10 = refl

request_leaves_12 : is_of_request 12 ≡ false
request_leaves_12 = refl
