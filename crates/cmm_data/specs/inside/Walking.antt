-- The data datum by datum, with any way to tell the word of a value.
use Rattle.std.specs.Prelude.{ℕ, ◌+◌, ◌-◌, ◌%◌, ◌^◌, true, false, List, [], ◌∷◌, ◌++◌, flat_map, map, replicate, slice_index_or, take}
use Rattle.rv_table.specs.Memory.{data_base}
use Rattle.cmm_words.specs.declared.width.Width.{Width}
use Rattle.cmm_words.specs.declared.constant.Constant.{Constant}
use Rattle.cmm_words.specs.declared.constant.Constant.TheVariants.{Number, Code, Address}
use Rattle.cmm_words.specs.Widths.{bytes}
use Rattle.cmm_program.specs.declared.program.Datum.{Datum}
use Rattle.cmm_program.specs.declared.program.Label.{Label}
use Rattle.cmm_program.specs.Layout.{aligned_up, bytes_of, datum_piece, end_of, starts}
use Rattle.cmm_data.specs.declared.fix.Fix.{Fix}

-- the word of a value, where labels have these addresses and code has those
abbrev pub word_by : List ℕ → (ℕ → ℕ → ℕ) → Constant → ℕ
word_by addresses code (Number word width) = word
word_by addresses code (Code proc plus) = code proc plus
word_by addresses code (Address label plus) = (slice_index_or addresses label 0 + plus) % 2 ^ 64

-- the word that stands until the code has an address
abbrev pub waiting : ℕ → ℕ → ℕ
waiting proc plus = 0

abbrev pub unfilled : List ℕ → Constant → ℕ
unfilled addresses = word_by addresses waiting

module _ (word : Constant → ℕ) where
  abbrev pub value_bytes : Width → List Constant → List ℕ
  value_bytes width values = flat_map (λ c. bytes_of (bytes width) (word c)) values

  abbrev pub datum_by : Datum → List ℕ
  datum_by d = elim d.values [ [] ↦ replicate d.length 0 | _ ∷ _ ↦ value_bytes d.width d.values ]

  -- the padding before a datum, and the datum
  abbrev pub padded : ℕ → Datum → List ℕ
  padded place d = replicate (aligned_up d.align place - place) 0 ++ datum_by d

  abbrev pub bytes_by : ℕ → List Datum → List ℕ
  bytes_by place [] = []
  bytes_by place (d ∷ ds) = padded place d ++ bytes_by (aligned_up d.align place + d.length) ds

-- where each datum ends, behind where the first may begin
abbrev pub ends_from : ℕ → List Datum → List ℕ
ends_from place [] = place ∷ []
ends_from place (d ∷ ds) = place ∷ ends_from (aligned_up d.align place + d.length) ds

-- the address of a label
abbrev pub address_in : List Datum → Label → ℕ
address_in ds l = elim l.at_end [
  | true ↦ end_of data_base (take l.datum (map datum_piece ds))
  | false ↦ slice_index_or (starts data_base (map datum_piece ds)) l.datum 0
]

-- the fix of a value that begins n bytes behind the first of the data
abbrev pub fix_by : ℕ → Constant → List Fix
fix_by place (Number word width) = []
fix_by place (Code proc plus) = record { place = place; procedure = proc; plus = plus } ∷ []
fix_by place (Address label plus) = []

abbrev pub value_fixes : ℕ → Width → List Constant → List Fix
value_fixes place width [] = []
value_fixes place width (c ∷ cs) = fix_by place c ++ value_fixes (place + bytes width) width cs

abbrev pub fixes_from : ℕ → List Datum → List Fix
fixes_from place [] = []
fixes_from place (d ∷ ds) =
    value_fixes (aligned_up d.align place - data_base) d.width d.values ++ fixes_from (aligned_up d.align place + d.length) ds
