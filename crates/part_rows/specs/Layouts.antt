-- The labels of a call that is tried, and its frames.
use Rattle.std.specs.Prelude.{ℕ, ◌+◌, ◌*◌, List, [], ◌∷◌, false, true}
use Rattle.rv_asm.specs.declared.part.Meaning.{Meaning}
use Rattle.rv_asm.specs.declared.part.Meaning.TheVariants.{Inner}
use Rattle.cmm_chain.specs.declared.frame.Frame.{Frame}
use Rattle.cmm_chain.specs.declared.frame.Location.{Location}
use Rattle.cmm_chain.specs.declared.frame.Location.TheVariants.{Slot, Saved, Temp}
use Rattle.cmm_select.specs.declared.operand.Operand.{Operand}
use Rattle.cmm_select.specs.declared.operand.Operand.TheVariants.{Held}
use Rattle.cmm_select.specs.declared.source.Source.TheVariants.{Place, Number, Address}
use Rattle.part_rows.specs.declared.code.frames.Layout.{Layout}
use Rattle.part_rows.specs.declared.code.frames.Layout.TheVariants.{Small, Reach, Before, Behind, Last}

-- the callee, the site, its alternate exit, and the limit of the stack: none has a place yet
abbrev pub fresh : List Meaning
fresh = Inner false ∷ Inner false ∷ Inner false ∷ Inner false ∷ []

-- behind the code of the caller
abbrev pub called : List Meaning
called = Inner false ∷ Inner true ∷ Inner true ∷ Inner false ∷ []

abbrev pub caller_frame : Frame
caller_frame = record { size = 144; return_at = 120; saved = (9, 128) ∷ (27, 136) ∷ []; pairs = []; stack = [] }

abbrev pub words_at : Layout → ℕ
words_at Small = 0
words_at Reach = 1984
words_at Before = 0
words_at Behind = 65536
words_at Last = 2097024

abbrev pub stackdata_at : Layout → ℕ
stackdata_at Small = 112
stackdata_at Reach = 0
stackdata_at Before = 112
stackdata_at Behind = 0
stackdata_at Last = 0

abbrev pub size_of : Layout → ℕ
size_of Small = 112
size_of Reach = 2096
size_of Before = 65648
size_of Behind = 65648
size_of Last = 2097136

abbrev pub callee_frame : Layout → Frame
callee_frame layout = record {
  size = size_of layout;
  return_at = words_at layout + 64;
  saved = (9, words_at layout + 72) ∷ (27, words_at layout + 80) ∷ [];
  pairs = (words_at layout + 96) ∷ [];
  stack = stackdata_at layout ∷ [];
}

-- ---- what travels

abbrev pub slot_of : Layout → ℕ → Location
slot_of layout index = Slot (words_at layout + 8 * index)

abbrev pub at_place : Location → Operand
at_place place = Held (Place place)

abbrev pub number_of : ℕ → Operand
number_of n = Held (Number n)

abbrev pub passed_values : List Operand
passed_values =
    number_of 0xffff_ffff_ffff_fffe ∷ at_place (Saved 9) ∷ at_place (Temp 31) ∷ at_place (Temp 13) ∷ Held (Address 96) ∷ number_of 5 ∷ number_of 6 ∷ number_of 7
    ∷ number_of 8 ∷ at_place (Saved 27) ∷ number_of 10 ∷ number_of 11 ∷ []

abbrev pub formals_of : Layout → List Location
formals_of l =
    slot_of l 0 ∷ Saved 9 ∷ Saved 27 ∷ Temp 12 ∷ slot_of l 1 ∷ Temp 28 ∷ slot_of l 2 ∷ slot_of l 3 ∷ Temp 29 ∷ Temp 30 ∷ slot_of l 4 ∷ slot_of l 5 ∷ []

abbrev pub returned_of : Layout → List Operand
returned_of l =
    at_place (slot_of l 6) ∷ at_place (Temp 12) ∷ at_place (slot_of l 5) ∷ at_place (slot_of l 4) ∷ at_place (Temp 30) ∷ at_place (Temp 29) ∷ at_place (slot_of l 3)
    ∷ at_place (slot_of l 2) ∷ at_place (Temp 28) ∷ at_place (slot_of l 1) ∷ at_place (Saved 27) ∷ at_place (Saved 9) ∷ at_place (slot_of l 0)
    ∷ Held (Address (stackdata_at l)) ∷ Held (Address (size_of l)) ∷ []
