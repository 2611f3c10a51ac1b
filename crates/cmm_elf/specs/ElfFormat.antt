-- The format of the ELF file of an image: its fields in their order, a line each. They have the names of the ELF specification, of its sections
-- "ELF Header" and "Program Header"; the number of the machine and its flags are those of the RISC-V ELF psABI specification.
use Rattle.std.specs.Prelude.{ℕ, ◌+◌, ◌-◌, ◌==◌, nat_lt, nat_le, bytes_eq, Bool, true, false, List, [], ◌∷◌, length, drop, replicate, Ok}
use Rattle.std.specs.Int.{next_multiple_of}
use Rattle.std.specs.List.{list_all}
use Rattle.byteorder.specs.Endian.{little_number}
use Rattle.cmm_rules.specs.declared.rule.Rule.{Rule}
use Rattle.cmm_rules.specs.declared.rule.Rule.TheVariants.{NotAnElfFile, ElfFileIsCut, BadElfField, BytesOutsideSegments}
use Rattle.rv_table.specs.declared.memory_map.TheConstants.{CODE_BASE, CODE_LENGTH_LIMIT, DATA_BASE, DATA_LENGTH_LIMIT}
use Rattle.cmm_format.specs.Formats.{◌>>=◌, Format, Front, Condition, number, number_bytes, block, as_, ◌when◌, ◌▸◌}
use Rattle.cmm_image.specs.ImageFormat.{is_code_length, is_in_code}
use Rattle.cmm_elf.specs.declared.kind.SegmentKind.{SegmentKind}
use Rattle.cmm_elf.specs.declared.kind.SegmentKind.TheVariants as segment
use Rattle.cmm_elf.specs.declared.segments.Segments.{Segments}

-- ---- kinds of field

abbrev pub Nothing : Type 0
Nothing = Unit {0}

abbrev pub u64 : Format ℕ
u64 = number ElfFileIsCut 8

abbrev pub is_value : Rule → List ℕ → Condition (List ℕ)
is_value rule value = record { rule = rule; holds = λ bytes. bytes_eq bytes value }

unfoldable pub fixed_at : Rule → List ℕ → List ℕ → Front Nothing
fixed_at rule value bytes = (block ElfFileIsCut (length value) when (is_value rule value ∷ [])).at bytes >>= λ x. Ok (tt, x.1)

-- a field with one value, given by its bytes
abbrev pub fixed : Rule → List ℕ → Format Nothing
fixed rule value = record { spelled = λ nothing. value; Holds = λ nothing. Nothing; at = fixed_at rule value }

abbrev pub are_zero : Condition (List ℕ)
are_zero = record { rule = BytesOutsideSegments; holds = list_all (λ byte. byte == 0) }

unfoldable pub zeros_at : ℕ → List ℕ → Front Nothing
zeros_at count bytes = (block ElfFileIsCut count when (are_zero ∷ [])).at bytes >>= λ x. Ok (tt, x.1)

-- padding, which is 0
abbrev pub zeros : ℕ → Format Nothing
zeros count = record { spelled = λ nothing. replicate count 0; Holds = λ nothing. Nothing; at = zeros_at count }

-- a value is one that its field may have
abbrev pub allowed : (ℕ → Bool) → Condition ℕ
allowed test = record { rule = BadElfField; holds = test }

-- ---- the ELF header, 64 bytes

-- the magic; ELFCLASS64, ELFDATA2LSB, EV_CURRENT; and no system or padding that is not 0
unfoldable pub identification : List ℕ
identification = 0x7f ∷ 0x45 ∷ 0x4c ∷ 0x46 ∷ 2 ∷ 1 ∷ 1 ∷ 0 ∷ 0 ∷ 0 ∷ 0 ∷ 0 ∷ 0 ∷ 0 ∷ 0 ∷ 0 ∷ []

-- ET_EXEC, EM_RISCV, EV_CURRENT
abbrev pub front : Format Nothing
front = as_ {A = Nothing × (Nothing × (Nothing × Nothing))} (λ x. tt) (λ nothing. (tt, (tt, (tt, tt)))) (
    fixed NotAnElfFile identification
    ▸ λ e_ident. fixed NotAnElfFile (number_bytes 2 2)
    ▸ λ e_type. fixed NotAnElfFile (number_bytes 2 243)
    ▸ λ e_machine. fixed NotAnElfFile (number_bytes 4 1)
    )

-- an address in code of this length
abbrev pub in_code : ℕ → Condition ℕ
in_code code_length = allowed (is_in_code code_length)

abbrev pub HeaderEnd : Type 0
HeaderEnd = Nothing × (Nothing × (Nothing × (Nothing × (Nothing × (Nothing × (Nothing × (Nothing × Nothing)))))))

-- the program headers follow this one; there are no section headers, and no flags
abbrev pub header_end : Format Nothing
header_end = as_ {A = HeaderEnd} (λ x. tt) (λ nothing. (tt, (tt, (tt, (tt, (tt, (tt, (tt, (tt, tt))))))))) (
    fixed BadElfField (number_bytes 8 64)
    ▸ λ e_phoff. fixed BadElfField (number_bytes 8 0)
    ▸ λ e_shoff. fixed BadElfField (number_bytes 4 0)
    ▸ λ e_flags. fixed BadElfField (number_bytes 2 64)
    ▸ λ e_ehsize. fixed BadElfField (number_bytes 2 56)
    ▸ λ e_phentsize. fixed BadElfField (number_bytes 2 2)
    ▸ λ e_phnum. fixed BadElfField (number_bytes 2 0)
    ▸ λ e_shentsize. fixed BadElfField (number_bytes 2 0)
    ▸ λ e_shnum. fixed BadElfField (number_bytes 2 0)
    )

-- the ELF header of a file whose entry is judged by this length of the code: the entry
abbrev pub elf_header : ℕ → Format ℕ
elf_header code_length = as_ {A = Nothing × (ℕ × Nothing)} (λ x. x.1.0) (λ entry. (tt, (entry, tt))) (
    front
    ▸ λ front. u64 when (in_code code_length ∷ [])
    ▸ λ e_entry. header_end
    )

-- ---- program headers, 56 bytes each

-- PF_R and PF_X, PF_R and PF_W
abbrev pub flags_of : SegmentKind → ℕ
flags_of segment.Code = 5
flags_of segment.Data = 6

abbrev pub address_of : SegmentKind → ℕ
address_of segment.Code = CODE_BASE
address_of segment.Data = DATA_BASE

abbrev pub is_length_of : SegmentKind → ℕ → Bool
is_length_of segment.Code n = is_code_length n
is_length_of segment.Data n = nat_le n DATA_LENGTH_LIMIT

-- PT_LOAD, and where the segment is
abbrev pub placement : SegmentKind → ℕ → Format Nothing
placement kind offset = as_ {A = Nothing × (Nothing × (Nothing × (Nothing × Nothing)))} (λ x. tt) (λ nothing. (tt, (tt, (tt, (tt, tt))))) (
    fixed BadElfField (number_bytes 4 1)
    ▸ λ p_type. fixed BadElfField (number_bytes 4 (flags_of kind))
    ▸ λ p_flags. fixed BadElfField (number_bytes 8 offset)
    ▸ λ p_offset. fixed BadElfField (number_bytes 8 (address_of kind))
    ▸ λ p_vaddr. fixed BadElfField (number_bytes 8 (address_of kind))
    )

-- the program header of a segment at this offset: its length
abbrev pub program_header : SegmentKind → ℕ → Format ℕ
program_header kind offset = as_ {A = Nothing × (ℕ × (Nothing × Nothing))} (λ x. x.1.0) (λ length. (tt, (length, (tt, tt)))) (
    placement kind offset
    ▸ λ placement. u64 when (allowed (is_length_of kind) ∷ [])
    ▸ λ p_filesz. fixed BadElfField (number_bytes 8 p_filesz)
    ▸ λ p_memsz. fixed BadElfField (number_bytes 8 4096)
    )

-- ---- the whole

-- where the data begins: at the least multiple of 4,096 that is not below the end of the code
abbrev pub data_offset : ℕ → ℕ
data_offset code_length = next_multiple_of (4096 + code_length) 4096

abbrev pub ElfFields : Type 0
ElfFields = ℕ × (ℕ × (ℕ × (Nothing × (List ℕ × (Nothing × List ℕ)))))

abbrev pub elf_of : ElfFields → Segments
elf_of (entry, (code_length, (data_length, (before_code, (code, (before_data, initial)))))) = record { code = code; initial = initial; entry = entry }

abbrev pub elf_fields : Segments → ElfFields
elf_fields s = (s.entry, (length s.code, (length s.initial, (tt, (s.code, (tt, s.initial))))))

-- a file whose entry is judged by this length of the code
abbrev pub elf : ℕ → Format Segments
elf judged_length = as_ elf_of elf_fields (
    elf_header judged_length
    ▸ λ entry. program_header segment.Code 4096
    ▸ λ code_length. program_header segment.Data (data_offset code_length)
    ▸ λ data_length. zeros 3920
    ▸ λ before_code. block ElfFileIsCut code_length
    ▸ λ code. zeros (data_offset code_length - (4096 + code_length))
    ▸ λ before_data. block ElfFileIsCut data_length
    )

-- The length of the code by which the entry of these bytes is judged: the p_filesz of the first program header, where it is not cut and code may
-- have it. Otherwise the entry must lie where code may be.
unfoldable pub code_length_in : List ℕ → ℕ
code_length_in bytes = elim (nat_lt (length bytes) 104) [
  | true ↦ CODE_LENGTH_LIMIT
  | false ↦ elim (is_code_length (little_number 8 (drop 96 bytes))) [ true ↦ little_number 8 (drop 96 bytes) | false ↦ CODE_LENGTH_LIMIT ]
]
