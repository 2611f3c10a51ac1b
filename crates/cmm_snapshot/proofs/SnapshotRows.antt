-- Worked rows: what is wrong with bytes that are nearly a snapshot of a run of a small image, and its registers.
use Rattle.std.proofs.Common.{◌≡◌, ◌<◌, ℕ, List, [], ◌∷◌, ◌++◌, length, take, replicate, None, Ok, refl}
use Rattle.cmm_rules.specs.declared.rule.Rule.TheVariants.{SnapshotIsCut, OtherImageHeader, BadSnapshotField, SnapshotTooLong, BytesAfterSnapshot, NotASnapshot}
use Rattle.cmm_format.specs.Formats.{number_at, number_bytes, block_at}
use Rattle.cmm_format.specs.Wholes.{whole_in}
use Rattle.cmm_format.proofs.Shared.{long-breaks}
use Rattle.cmm_image.specs.declared.parts.ImageParts.{ImageParts}
use Rattle.cmm_image.specs.WholeImage.{header_bytes}
use Rattle.cmm_snapshot.specs.declared.reading.TheConstants.{SNAPSHOT_LIMIT}
use Rattle.cmm_snapshot.specs.SnapshotFormat.{Snapshot, numbered_count, registers, snapshot}
use Rattle.cmm_snapshot.specs.Snapshots.{IsFirstFault, snapshot_ends, snapshot_in}

-- four bytes of code, no data, one procedure without a frame, which is main
small : ImageParts
small = record {
  version = 1;
  code = 19 ∷ 0 ∷ 0 ∷ 0 ∷ [];
  initial = [];
  start = 65536;
  last = 65536;
  main = 0;
  procs = record { code = 65536; name = 109 ∷ []; frame = 0; return_at = None; saved = []; variables = []; stack_labels = []; continuations = [] } ∷ [];
  sites = [];
  labels = [];
  globals = [];
}

-- 0x434d4d53, and version 1
start : List ℕ
start = 67 ∷ 77 ∷ 77 ∷ 83 ∷ 1 ∷ 0 ∷ 0 ∷ 0 ∷ []

-- the image's header: 0x434d4d49, version 1, four bytes of code, no data, the start and the last at 0x10000, one procedure
header : List ℕ
header =
    67 ∷ 77 ∷ 77 ∷ 73 ∷ 1 ∷ 0 ∷ 0 ∷ 0 ∷ 4 ∷ 0 ∷ 0 ∷ 0 ∷ 0 ∷ 0 ∷ 0 ∷ 0 ∷ 0 ∷ 0 ∷ 0 ∷ 0 ∷ 0 ∷ 0 ∷ 0 ∷ 0
    ∷ 0 ∷ 0 ∷ 1 ∷ 0 ∷ 0 ∷ 0 ∷ 0 ∷ 0 ∷ 0 ∷ 0 ∷ 1 ∷ 0 ∷ 0 ∷ 0 ∷ 0 ∷ 0
    ∷ 1 ∷ 0 ∷ 0 ∷ 0 ∷ 0 ∷ 0 ∷ 0 ∷ 0 ∷ 0 ∷ 0 ∷ 0 ∷ 0 ∷ 0 ∷ 0 ∷ 0 ∷ 0 ∷ 0 ∷ 0 ∷ 0 ∷ 0 ∷ 0 ∷ 0 ∷ 0 ∷ 0 ∷ []

-- a number of eight bytes, of which the first is not 0 only
low : ℕ → List ℕ
low n = n ∷ 0 ∷ 0 ∷ 0 ∷ 0 ∷ 0 ∷ 0 ∷ 0 ∷ []

-- register 1 is 7, and the pc is 4
small_registers : List ℕ
small_registers = low 0 ++ low 7 ++ replicate 240 0 ++ low 4

-- a stack of 16 bytes
small_bytes : List ℕ
small_bytes = start ++ header ++ low 16 ++ small_registers ++ replicate 4112 0

small_snapshot : Snapshot
small_snapshot = record { stack_size = 16; registers = 7 ∷ replicate 30 0; pc = 4; data_bytes = []; region_bytes = replicate 4112 0 }

header_is : header_bytes small ≡ header
unfolding small header number_bytes
header_is = refl

registers_are_read : registers.at small_registers ≡ Ok ((7 ∷ replicate 30 0, 4), [])
unfolding small_registers low numbered_count number_at
registers_are_read = refl

small_is_spelled : (snapshot small).spelled small_snapshot ≡ small_bytes
unfolding small start header low small_registers small_bytes small_snapshot number_bytes
small_is_spelled = refl

-- the last byte of register 1, at 88, is not there
cut_row : IsFirstFault small (start ++ header ++ low 16 ++ take 15 small_registers) SnapshotIsCut 88
unfolding small start header low small_registers numbered_count whole_in number_at block_at number_bytes
cut_row = record { broken = record { rule = SnapshotIsCut; left = 7 }; first = refl; rule_is = refl; offset_is = refl }

no_byte_row : IsFirstFault small [] SnapshotIsCut 0
unfolding whole_in number_at
no_byte_row = record { broken = record { rule = SnapshotIsCut; left = 0 }; first = refl; rule_is = refl; offset_is = refl }

-- an image is no snapshot
magic_row : IsFirstFault small header NotASnapshot 0
unfolding header whole_in number_at
magic_row = record { broken = record { rule = NotASnapshot; left = 64 }; first = refl; rule_is = refl; offset_is = refl }

version_row : IsFirstFault small (67 ∷ 77 ∷ 77 ∷ 83 ∷ 2 ∷ 0 ∷ 0 ∷ 0 ∷ []) NotASnapshot 4
unfolding whole_in number_at
version_row = record { broken = record { rule = NotASnapshot; left = 4 }; first = refl; rule_is = refl; offset_is = refl }

-- the last byte of the header is another
header_row : IsFirstFault small (start ++ take 63 header ++ 1 ∷ []) OtherImageHeader 8
unfolding small start header whole_in number_at block_at number_bytes
header_row = record { broken = record { rule = OtherImageHeader; left = 64 }; first = refl; rule_is = refl; offset_is = refl }

-- a stack of 8 bytes
stack_row : IsFirstFault small (start ++ header ++ low 8) BadSnapshotField 72
unfolding small start header low whole_in number_at block_at number_bytes
stack_row = record { broken = record { rule = BadSnapshotField; left = 8 }; first = refl; rule_is = refl; offset_is = refl }

-- a stack of 268,435,456 bytes may be, and one of 16 more not
stack_border_row : IsFirstFault small (start ++ header ++ 0 ∷ 0 ∷ 0 ∷ 16 ∷ 0 ∷ 0 ∷ 0 ∷ 0 ∷ low 1) BadSnapshotField 80
unfolding small start header low whole_in number_at block_at number_bytes
stack_border_row = record { broken = record { rule = BadSnapshotField; left = 8 }; first = refl; rule_is = refl; offset_is = refl }

stack_past_row : IsFirstFault small (start ++ header ++ 16 ∷ 0 ∷ 0 ∷ 16 ∷ 0 ∷ 0 ∷ 0 ∷ 0 ∷ low 1) BadSnapshotField 72
unfolding small start header low whole_in number_at block_at number_bytes
stack_past_row = record { broken = record { rule = BadSnapshotField; left = 16 }; first = refl; rule_is = refl; offset_is = refl }

-- register 0 is 1
zero_row : IsFirstFault small (start ++ header ++ low 16 ++ low 1) BadSnapshotField 80
unfolding small start header low whole_in number_at block_at number_bytes
zero_row = record { broken = record { rule = BadSnapshotField; left = 8 }; first = refl; rule_is = refl; offset_is = refl }

-- one byte too many, behind 344 and the 4,112 of the region
after_row : IsFirstFault small (small_bytes ++ 0 ∷ []) BytesAfterSnapshot 4456
unfolding small start header low small_registers small_bytes numbered_count whole_in number_at block_at number_bytes
after_row = record { broken = record { rule = BytesAfterSnapshot; left = 1 }; first = refl; rule_is = refl; offset_is = refl }

small_is_read : snapshot_in small small_bytes ≡ Ok small_snapshot
unfolding small start header low small_registers small_bytes small_snapshot numbered_count whole_in number_at block_at number_bytes
small_is_read = refl

-- one byte more than there may be
long_row : (bytes : List ℕ) → SNAPSHOT_LIMIT < length bytes → IsFirstFault small bytes SnapshotTooLong 536870912
long_row bytes long = long-breaks snapshot_ends bytes long
