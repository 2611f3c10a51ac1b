-- Where data lies, and where the stackdata of a procedure lies in its frame (C-- Language Specification 2.0, data
-- sections and stack data).
use Rattle.std.specs.Prelude.{ℕ, zero, suc, pred, ◌+◌, ◌-◌, ◌*◌, ◌/◌, ◌%◌, ◌^◌, true, false, List, [], ◌∷◌, ◌++◌, map, take, replicate, flat_map, slice_index_or}
use Rattle.cmm_words.specs.declared.constant.Constant.{Constant}
use Rattle.cmm_words.specs.declared.constant.Constant.TheVariants.{Number, Code, Address}
use Rattle.cmm_words.specs.Widths.{bytes}
use Rattle.rv_table.specs.Memory.{data_base}
use Rattle.cmm_program.specs.declared.program.Program.{Program}
use Rattle.cmm_program.specs.declared.program.Datum.{Datum}
use Rattle.cmm_program.specs.declared.program.Label.{Label}
use Rattle.cmm_program.specs.declared.procedure.StackItem.{StackItem}
use Rattle.cmm_program.specs.declared.placement.Placement.{Placement}
use Rattle.cmm_program.specs.declared.placement.PlaceRow.{PlaceRow}

-- something to be laid down: its alignment and its length, in bytes
pub record Piece : Type 0 where
  pub align : ℕ
  pub length : ℕ

-- the least multiple of `align` that is not below the place
abbrev pub aligned_up : ℕ → ℕ → ℕ
aligned_up align place = (place + pred align) / align * align

-- where each piece begins, and where the last one ends, from a place on
abbrev pub starts : ℕ → List Piece → List ℕ
starts place [] = []
starts place (p ∷ ps) = aligned_up p.align place ∷ starts (aligned_up p.align place + p.length) ps

abbrev pub end_of : ℕ → List Piece → ℕ
end_of place [] = place
end_of place (p ∷ ps) = end_of (aligned_up p.align place + p.length) ps

-- ---- data

abbrev pub datum_piece : Datum → Piece
datum_piece d = record { align = d.align; length = d.length }

abbrev pub datum_address : Program → ℕ → ℕ
datum_address p n = slice_index_or (starts data_base (map datum_piece p.datums)) n 0

-- the end of the data before a datum; of all data where there are no more
abbrev pub end_before : Program → ℕ → ℕ
end_before p n = end_of data_base (take n (map datum_piece p.datums))

abbrev pub label_address : Program → Label → ℕ
label_address p l = elim l.at_end [ true ↦ end_before p l.datum | false ↦ datum_address p l.datum ]

abbrev pub label_addresses : Program → List ℕ
label_addresses p = map (label_address p) p.labels

-- ---- constants

abbrev pub row_of : Placement → ℕ → PlaceRow
row_of placement n = slice_index_or placement.rows n record { code = 0; frame = 0; pairs = []; stack = [] }

abbrev pub constant_value : Program → Placement → Constant → ℕ
constant_value p placement (Number n width) = n
constant_value p placement (Code proc plus) = ((row_of placement proc).code + plus) % 2 ^ 64
constant_value p placement (Address label plus) = (slice_index_or (label_addresses p) label 0 + plus) % 2 ^ 64

-- n bytes of a number, the lowest first
abbrev pub bytes_of : ℕ → ℕ → List ℕ
bytes_of zero value = []
bytes_of (suc n) value = value % 256 ∷ bytes_of n (value / 256)

-- ---- the bytes of data, with those between them, which are 0

abbrev pub datum_bytes : Program → Placement → Datum → List ℕ
datum_bytes p placement d = elim d.values [
  | [] ↦ replicate d.length 0
  | _ ∷ _ ↦ flat_map (λ c. bytes_of (bytes d.width) (constant_value p placement c)) d.values
]

abbrev pub bytes_from : Program → Placement → ℕ → List Datum → List ℕ
bytes_from p placement place [] = []
bytes_from p placement place (d ∷ ds) =
    replicate (aligned_up d.align place - place) 0 ++ datum_bytes p placement d
    ++ bytes_from p placement (aligned_up d.align place + d.length) ds

abbrev pub data_bytes : Program → Placement → List ℕ
data_bytes p placement = bytes_from p placement data_base p.datums

-- ---- stackdata, from offset 0

abbrev pub item_piece : StackItem → Piece
item_piece i = record { align = i.align; length = i.length }

abbrev pub stackdata_size : List StackItem → ℕ
stackdata_size items = end_of 0 (map item_piece items)

-- the place of each label
abbrev pub stackdata_labels_from : ℕ → List StackItem → List ℕ
stackdata_labels_from place [] = []
stackdata_labels_from place (i ∷ is) = let here = aligned_up i.align place in
    elim i.label [ true ↦ here ∷ stackdata_labels_from (here + i.length) is | false ↦ stackdata_labels_from (here + i.length) is ]

abbrev pub stackdata_labels : List StackItem → List ℕ
stackdata_labels items = stackdata_labels_from 0 items
