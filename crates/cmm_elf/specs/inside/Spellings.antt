-- Parts of a file that functions of their own write.
use Rattle.std.specs.Prelude.{ℕ, ◌+◌, ◌-◌, List, ◌++◌, length, replicate}
use Rattle.cmm_format.specs.Formats.{number_bytes}
use Rattle.cmm_elf.specs.declared.kind.SegmentKind.{SegmentKind}
use Rattle.cmm_elf.specs.declared.kind.SegmentKind.TheVariants as segment
use Rattle.cmm_elf.specs.ElfFormat.{data_offset, elf_header, front, header_end, placement, program_header}

abbrev pub front_bytes : List ℕ
front_bytes = front.spelled tt

abbrev pub header_end_bytes : List ℕ
header_end_bytes = header_end.spelled tt

-- those of the sizes and counts of headers, from e_ehsize on
abbrev pub sizes_bytes : List ℕ
sizes_bytes = number_bytes 2 64 ++ (number_bytes 2 56 ++ (number_bytes 2 2 ++ (number_bytes 2 0 ++ (number_bytes 2 0 ++ number_bytes 2 0))))

-- those of the ELF header with this entry
abbrev pub elf_header_bytes : ℕ → List ℕ
elf_header_bytes entry = (elf_header 0).spelled entry

abbrev pub placement_bytes : SegmentKind → ℕ → List ℕ
placement_bytes kind offset = (placement kind offset).spelled tt

-- those of the program header of a segment of this length at this offset
abbrev pub program_header_bytes : SegmentKind → ℕ → ℕ → List ℕ
program_header_bytes kind offset length = (program_header kind offset).spelled length

-- the code and the data, each behind its padding
abbrev pub body_bytes : List ℕ → List ℕ → List ℕ
body_bytes code initial = replicate 3920 0 ++ (code ++ (replicate (data_offset (length code) - (4096 + length code)) 0 ++ initial))

abbrev pub elf_bytes : List ℕ → List ℕ → ℕ → List ℕ
elf_bytes code initial entry =
    elf_header_bytes entry ++ (program_header_bytes segment.Code 4096 (length code) ++ (program_header_bytes segment.Data (data_offset (length code)) (length initial) ++ body_bytes code initial))
