-- Worked rows: the file of a small image, and what is wrong with bytes that are nearly one.
use Rattle.std.proofs.Common.{◌≡◌, ◌<◌, ℕ, List, [], ◌∷◌, ◌++◌, length, take, drop, replicate, Ok, refl}
use Rattle.cmm_rules.specs.declared.rule.Rule.TheVariants.{NotAnElfFile, ElfFileIsCut, BadElfField, BytesOutsideSegments, ElfFileTooLong}
use Rattle.cmm_format.specs.Formats.{number_at, number_bytes, block_at}
use Rattle.cmm_format.specs.Wholes.{whole_in}
use Rattle.cmm_format.proofs.Shared.{long-breaks}
use Rattle.cmm_elf.specs.declared.reading.TheConstants.{ELF_LIMIT}
use Rattle.cmm_elf.specs.declared.segments.Segments.{Segments}
use Rattle.cmm_elf.specs.ElfFormat.{code_length_in, elf, fixed_at, identification, zeros_at}
use Rattle.cmm_elf.specs.ElfFiles.{IsFirstFault, elf_ends, elf_in}

-- a number of eight bytes, of which the lowest four are these
word : ℕ → ℕ → ℕ → ℕ → List ℕ
word a b c d = a ∷ b ∷ c ∷ d ∷ 0 ∷ 0 ∷ 0 ∷ 0 ∷ []

-- the first 24 bytes: an ELF64 executable of RISC-V, with the low byte first
front : List ℕ
front = 127 ∷ 69 ∷ 76 ∷ 70 ∷ 2 ∷ 1 ∷ 1 ∷ replicate 9 0 ++ 2 ∷ 0 ∷ 243 ∷ 0 ∷ 1 ∷ 0 ∷ 0 ∷ 0 ∷ []

-- what follows the entry: program headers at 64 of 56 bytes each, two of them, and no section headers
header_end : List ℕ
header_end = word 64 0 0 0 ++ replicate 12 0 ++ 64 ∷ 0 ∷ 56 ∷ 0 ∷ 2 ∷ 0 ∷ replicate 6 0

-- eight bytes of code, from 0x10000 on, at 0x1000 in the file
code_header : List ℕ
code_header = 1 ∷ 0 ∷ 0 ∷ 0 ∷ 5 ∷ 0 ∷ 0 ∷ 0 ∷ word 0 16 0 0 ++ word 0 0 1 0 ++ word 0 0 1 0 ++ word 8 0 0 0 ++ word 8 0 0 0 ++ word 0 16 0 0

-- 24 bytes of data, from 0x40000000 on, at 0x2000 in the file
data_header : List ℕ
data_header = 1 ∷ 0 ∷ 0 ∷ 0 ∷ 6 ∷ 0 ∷ 0 ∷ 0 ∷ word 0 32 0 0 ++ word 0 0 0 64 ++ word 0 0 0 64 ++ word 24 0 0 0 ++ word 24 0 0 0 ++ word 0 16 0 0

-- a jump to the second instruction, which is a breakpoint
code : List ℕ
code = 111 ∷ 0 ∷ 64 ∷ 0 ∷ 115 ∷ 0 ∷ 16 ∷ 0 ∷ []

initial : List ℕ
initial = replicate 23 7 ++ 9 ∷ []

small : Segments
small = record { code = code; initial = initial; entry = 65536 }

headers : List ℕ
headers = front ++ word 0 0 1 0 ++ header_end ++ code_header ++ data_header

small_bytes : List ℕ
small_bytes = headers ++ replicate 3920 0 ++ code ++ replicate 4088 0 ++ initial

small_length : length small_bytes ≡ 8216
unfolding word front header_end code_header data_header code initial headers small_bytes
small_length = refl

small_is_spelled : (elf 8).spelled small ≡ small_bytes
unfolding word front header_end code_header data_header code initial small headers small_bytes identification number_bytes
small_is_spelled = refl

small_is_read : elf_in small_bytes ≡ Ok small
unfolding word front header_end code_header data_header code initial small headers small_bytes identification number_bytes number_at block_at fixed_at zeros_at code_length_in whole_in
small_is_read = refl

no_byte_row : IsFirstFault [] ElfFileIsCut 0
unfolding identification block_at fixed_at code_length_in whole_in
no_byte_row = record { broken = record { rule = ElfFileIsCut; left = 0 }; first = refl; rule_is = refl; offset_is = refl }

-- the machine is 62, that of x86-64
machine_row : IsFirstFault (take 18 headers ++ 62 ∷ drop 19 headers) NotAnElfFile 18
unfolding word front header_end code_header data_header headers identification number_bytes block_at fixed_at code_length_in whole_in
machine_row = record { broken = record { rule = NotAnElfFile; left = 158 }; first = refl; rule_is = refl; offset_is = refl }

-- the entry is behind the eight bytes of code
entry_row : IsFirstFault (front ++ word 8 0 1 0 ++ header_end ++ code_header) BadElfField 24
unfolding word front header_end code_header identification number_bytes number_at block_at fixed_at code_length_in whole_in
entry_row = record { broken = record { rule = BadElfField; left = 96 }; first = refl; rule_is = refl; offset_is = refl }

-- where the length of the code, at 96, is cut, the entry may be anywhere that code may be
entry_before_cut_row : IsFirstFault (front ++ word 8 0 1 0 ++ header_end ++ take 39 code_header) ElfFileIsCut 96
unfolding word front header_end code_header identification number_bytes number_at block_at fixed_at code_length_in whole_in
entry_before_cut_row = record { broken = record { rule = ElfFileIsCut; left = 7 }; first = refl; rule_is = refl; offset_is = refl }

-- the data cannot be executed
flags_row : IsFirstFault (take 124 headers ++ 7 ∷ drop 125 headers) BadElfField 124
unfolding word front header_end code_header data_header headers identification number_bytes number_at block_at fixed_at code_length_in whole_in
flags_row = record { broken = record { rule = BadElfField; left = 52 }; first = refl; rule_is = refl; offset_is = refl }

-- the last byte before the code is not 0
padding_row : IsFirstFault (headers ++ replicate 3919 0 ++ 1 ∷ []) BytesOutsideSegments 176
unfolding word front header_end code_header data_header headers identification number_bytes number_at block_at fixed_at zeros_at code_length_in whole_in
padding_row = record { broken = record { rule = BytesOutsideSegments; left = 3920 }; first = refl; rule_is = refl; offset_is = refl }

-- one byte too many
after_row : IsFirstFault (small_bytes ++ 0 ∷ []) BytesOutsideSegments 8216
unfolding word front header_end code_header data_header code initial headers small_bytes identification number_bytes number_at block_at fixed_at zeros_at code_length_in whole_in
after_row = record { broken = record { rule = BytesOutsideSegments; left = 1 }; first = refl; rule_is = refl; offset_is = refl }

-- one byte more than there may be
long_row : (bytes : List ℕ) → ELF_LIMIT < length bytes → IsFirstFault bytes ElfFileTooLong 536879104
long_row bytes long = long-breaks elf_ends bytes long
