-- Which bytes spell the ELF file of segments, and which field is named of bytes that spell none.
use Rattle.std.specs.Prelude.{◌≡◌, ℕ, ◌≤◌, List, length, Result, Ok, Err}
use Rattle.cmm_rules.specs.declared.rule.Rule.{Rule}
use Rattle.cmm_rules.specs.declared.rule.Rule.TheVariants.{BytesOutsideSegments, ElfFileTooLong}
use Rattle.cmm_format.specs.declared.fault.Broken.{Broken}
use Rattle.cmm_format.specs.Wholes.{Ends, whole_in, IsFirstBroken}
use Rattle.cmm_image.specs.declared.parts.ImageParts.{ImageParts}
use Rattle.cmm_elf.specs.declared.reading.TheConstants.{ELF_LIMIT}
use Rattle.cmm_elf.specs.declared.fault.ElfFault.{ElfFault}
use Rattle.cmm_elf.specs.declared.fault.ElfFault.TheVariants.{At, Memory}
use Rattle.cmm_elf.specs.declared.segments.Segments.{Segments}
use Rattle.cmm_elf.specs.ElfFormat.{code_length_in, elf}

-- the segments and the entry of an image
abbrev pub segments_of : ImageParts → Segments
segments_of i = record { code = i.code; initial = i.initial; entry = i.start }

-- these bytes are the file of these segments, whose entry lies in their code
pub record SpellsElf (bytes : List ℕ) (s : Segments) : Type 0 where
  pub fields : (elf (length s.code)).Holds s
  pub spelled : bytes ≡ (elf (length s.code)).spelled s
  pub short : length bytes ≤ ELF_LIMIT

-- what is asked of all the bytes
abbrev pub elf_ends : Ends
elf_ends = record { limit = ELF_LIMIT; too_long = ElfFileTooLong; followed = BytesOutsideSegments }

-- the segments whose file all of the bytes are, or the first field that breaks a rule
abbrev pub elf_in : List ℕ → Result Segments Broken
elf_in bytes = whole_in (elf (code_length_in bytes)) elf_ends bytes

-- the first field that breaks a rule begins at this offset
abbrev pub IsFirstFault : List ℕ → Rule → ℕ → Type 0
IsFirstFault bytes = IsFirstBroken (elf (code_length_in bytes)) elf_ends bytes

-- what is said to be wrong is the first fault
abbrev pub ElfFaultAt : List ℕ → ElfFault → Type 0
ElfFaultAt bytes (At rule offset) = IsFirstFault bytes rule offset
ElfFaultAt bytes Memory = Unit {0}

-- the answer is these segments, unless memory ran out
abbrev pub IsElfRead : Segments → Result Segments ElfFault → Type 0
IsElfRead s (Ok read) = read ≡ s
IsElfRead s (Err (At rule offset)) = ⊥
IsElfRead s (Err Memory) = Unit {0}

-- the answer is that this rule is broken there, unless memory ran out
abbrev pub IsRefusal : Rule → ℕ → Result Segments ElfFault → Type 0
IsRefusal rule offset (Ok read) = ⊥
IsRefusal rule offset (Err (At r o)) = (r ≡ rule) × (o ≡ offset)
IsRefusal rule offset (Err Memory) = Unit {0}
