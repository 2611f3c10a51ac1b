-- The format of ELF files reads what it spells and nothing else.
use Rattle.std.proofs.Common.{◌≡◌, ℕ, ◌+◌, ◌-◌, List, [], ◌∷◌, length, refl}
use Rattle.cmm_rules.specs.declared.rule.Rule.TheVariants.{NotAnElfFile, ElfFileIsCut, BadElfField}
use Rattle.cmm_format.specs.Formats.{number_bytes}
use Rattle.cmm_format.proofs.Shared.{IsExact, number-exact, block-exact, when-exact, then-exact, as-exact}
use Rattle.cmm_elf.specs.declared.kind.SegmentKind.{SegmentKind}
use Rattle.cmm_elf.specs.declared.kind.SegmentKind.TheVariants as segment
use Rattle.cmm_elf.specs.ElfFormat.{ElfFields, HeaderEnd, Nothing, address_of, allowed, data_offset, elf, elf_fields, elf_header, elf_of, flags_of, front, header_end, identification, in_code, is_length_of, placement, program_header}
use Rattle.cmm_elf.proofs.FieldLaws.{fixed-exact, zeros-exact}

front-exact : IsExact front
front-exact = as-exact {A = Nothing × (Nothing × (Nothing × Nothing))} (λ x. tt) (λ nothing. (tt, (tt, (tt, tt))))
    (then-exact (fixed-exact NotAnElfFile identification) λ (e_ident : Nothing).
    then-exact (fixed-exact NotAnElfFile (number_bytes 2 2)) λ (e_type : Nothing).
    then-exact (fixed-exact NotAnElfFile (number_bytes 2 243)) λ (e_machine : Nothing).
    fixed-exact NotAnElfFile (number_bytes 4 1))
    (λ nothing holds. refl) (λ x holds. refl)

header_end-exact : IsExact header_end
header_end-exact = as-exact {A = HeaderEnd} (λ x. tt) (λ nothing. (tt, (tt, (tt, (tt, (tt, (tt, (tt, (tt, tt)))))))))
    (then-exact (fixed-exact BadElfField (number_bytes 8 64)) λ (e_phoff : Nothing).
    then-exact (fixed-exact BadElfField (number_bytes 8 0)) λ (e_shoff : Nothing).
    then-exact (fixed-exact BadElfField (number_bytes 4 0)) λ (e_flags : Nothing).
    then-exact (fixed-exact BadElfField (number_bytes 2 64)) λ (e_ehsize : Nothing).
    then-exact (fixed-exact BadElfField (number_bytes 2 56)) λ (e_phentsize : Nothing).
    then-exact (fixed-exact BadElfField (number_bytes 2 2)) λ (e_phnum : Nothing).
    then-exact (fixed-exact BadElfField (number_bytes 2 0)) λ (e_shentsize : Nothing).
    then-exact (fixed-exact BadElfField (number_bytes 2 0)) λ (e_shnum : Nothing).
    fixed-exact BadElfField (number_bytes 2 0))
    (λ nothing holds. refl) (λ x holds. refl)

elf_header-exact : (code_length : ℕ) → IsExact (elf_header code_length)
elf_header-exact code_length = as-exact {A = Nothing × (ℕ × Nothing)} (λ x. x.1.0) (λ entry. (tt, (entry, tt)))
    (then-exact front-exact λ (front : Nothing).
    then-exact (when-exact (in_code code_length ∷ []) (number-exact ElfFileIsCut 8)) λ (e_entry : ℕ).
    header_end-exact)
    (λ entry holds. refl) (λ x holds. refl)

placement-exact : (kind : SegmentKind) (offset : ℕ) → IsExact (placement kind offset)
placement-exact kind offset = as-exact {A = Nothing × (Nothing × (Nothing × (Nothing × Nothing)))} (λ x. tt) (λ nothing. (tt, (tt, (tt, (tt, tt)))))
    (then-exact (fixed-exact BadElfField (number_bytes 4 1)) λ (p_type : Nothing).
    then-exact (fixed-exact BadElfField (number_bytes 4 (flags_of kind))) λ (p_flags : Nothing).
    then-exact (fixed-exact BadElfField (number_bytes 8 offset)) λ (p_offset : Nothing).
    then-exact (fixed-exact BadElfField (number_bytes 8 (address_of kind))) λ (p_vaddr : Nothing).
    fixed-exact BadElfField (number_bytes 8 (address_of kind)))
    (λ nothing holds. refl) (λ x holds. refl)

program_header-exact : (kind : SegmentKind) (offset : ℕ) → IsExact (program_header kind offset)
program_header-exact kind offset = as-exact {A = Nothing × (ℕ × (Nothing × Nothing))} (λ x. x.1.0) (λ length. (tt, (length, (tt, tt))))
    (then-exact (placement-exact kind offset) λ (placement : Nothing).
    then-exact (when-exact (allowed (is_length_of kind) ∷ []) (number-exact ElfFileIsCut 8)) λ (p_filesz : ℕ).
    then-exact (fixed-exact BadElfField (number_bytes 8 p_filesz)) λ (p_memsz : Nothing).
    fixed-exact BadElfField (number_bytes 8 4096))
    (λ length holds. refl) (λ x holds. refl)

-- the lengths are those of the code and the data
fields_same : (entry code_length data_length : ℕ) (before_code : Nothing) (code : List ℕ) (before_data : Nothing) (initial : List ℕ) → length code ≡ code_length → length initial ≡ data_length →
    ◌≡◌ {A = ElfFields} (entry, (length code, (length initial, (tt, (code, (tt, initial)))))) (entry, (code_length, (data_length, (before_code, (code, (before_data, initial))))))
fields_same entry code_length data_length before_code code before_data initial e f = rw (e, f) refl

pub elf-exact : (judged_length : ℕ) → IsExact (elf judged_length)
elf-exact judged_length = as-exact elf_of elf_fields
    (then-exact (elf_header-exact judged_length) λ (entry : ℕ).
    then-exact (program_header-exact segment.Code 4096) λ (code_length : ℕ).
    then-exact (program_header-exact segment.Data (data_offset code_length)) λ (data_length : ℕ).
    then-exact (zeros-exact 3920) λ (before_code : Nothing).
    then-exact (block-exact ElfFileIsCut code_length) λ (code : List ℕ).
    then-exact (zeros-exact (data_offset code_length - (4096 + code_length))) λ (before_data : Nothing).
    block-exact ElfFileIsCut data_length)
    (λ s holds. refl)
    (λ x holds. fields_same x.0 x.1.0 x.1.1.0 x.1.1.1.0 x.1.1.1.1.0 x.1.1.1.1.1.0 x.1.1.1.1.1.1 holds.1.1.1.1.0.0 holds.1.1.1.1.1.1.0)
