-- How long the parts of an ELF file are, and by which length of the code its entry is judged.
use Rattle.std.proofs.Common.{◌≡◌, ℕ, ◌+◌, ◌-◌, ◌≤◌, ◌<◌, ◌^◌, true, false, nat_lt, List, ◌++◌, length, drop, replicate, refl, sym, ap, subst, ◌∙◌, append_assoc, arith}
use Rattle.std.proofs.lemmas.Bool.{le-ltb}
use Rattle.std.proofs.lemmas.Bool.Decides.{nat_tests}
use Rattle.std.proofs.lemmas.List.{drop_at, length-append, length-replicate}
use Rattle.byteorder.specs.Endian.{little_number}
use Rattle.byteorder.specs.Numbers.{little_number-reads_back}
use Rattle.rv_table.specs.declared.memory_map.TheConstants.{CODE_LENGTH_LIMIT}
use Rattle.cmm_format.specs.Formats.{number_bytes}
use Rattle.cmm_format.proofs.Shared.{chosen_false, chosen_true, length-number_bytes}
use Rattle.cmm_image.specs.ImageFormat.{is_code_length}
use Rattle.cmm_elf.specs.declared.kind.SegmentKind.{SegmentKind}
use Rattle.cmm_elf.specs.declared.kind.SegmentKind.TheVariants as segment
use Rattle.cmm_elf.specs.declared.segments.Segments.{Segments}
use Rattle.cmm_elf.specs.ElfFormat.{code_length_in, data_offset, elf, identification, is_length_of}
use Rattle.cmm_elf.specs.inside.Spellings.{body_bytes, elf_bytes, elf_header_bytes, placement_bytes, program_header_bytes}

-- ---- bounds

pub code_length_few : (n : ℕ) → is_code_length n ≡ true → n ≤ CODE_LENGTH_LIMIT
code_length_few n h = grind (arith, nat_tests)

pub kind_length_few : (n : ℕ) → is_length_of segment.Code n ≡ true → n ≤ CODE_LENGTH_LIMIT
kind_length_few n h = code_length_few n h

pub data_follows : (n : ℕ) → 4096 + n ≤ data_offset n
data_follows n = omega arith

pub data_near : (n : ℕ) → data_offset n < 4096 + n + 4096
data_near n = omega arith

-- ---- lengths

identification_long : length identification ≡ 16
unfolding identification
identification_long = refl

pub header_long : (entry : ℕ) → length (elf_header_bytes entry) ≡ 64
header_long entry = simp (length-append, length-number_bytes, identification_long)

placement_long : (kind : SegmentKind) (offset : ℕ) → length (placement_bytes kind offset) ≡ 32
placement_long kind offset = simp (length-append, length-number_bytes)

program_header_long : (kind : SegmentKind) (offset n : ℕ) → length (program_header_bytes kind offset n) ≡ 56
program_header_long kind offset n = simp (length-append, length-number_bytes)

four : (a b c d : List ℕ) → length (a ++ (b ++ (c ++ d))) ≡ length a + length b + length c + length d
four a b c d = omega (arith, length-append a (b ++ (c ++ d)), length-append b (c ++ d), length-append c d)

body_long : (code initial : List ℕ) → length (body_bytes code initial) ≡ 3920 + length code + (data_offset (length code) - (4096 + length code)) + length initial
body_long code initial =
    omega (
      arith,
      four (replicate 3920 0) code (replicate (data_offset (length code) - (4096 + length code)) 0) initial,
      length-replicate {A = ℕ} 3920 0,
      length-replicate {A = ℕ} (data_offset (length code) - (4096 + length code)) 0,
    )

pub elf_long : (code initial : List ℕ) (entry : ℕ) → length (elf_bytes code initial entry) ≡ data_offset (length code) + length initial
elf_long code initial entry =
    let headers = four (elf_header_bytes entry) (program_header_bytes segment.Code 4096 (length code)) (program_header_bytes segment.Data (data_offset (length code)) (length initial)) (body_bytes code initial) in
    let a = header_long entry in
    let b = program_header_long segment.Code 4096 (length code) in
    let c = program_header_long segment.Data (data_offset (length code)) (length initial) in
    let d = body_long code initial in
    let follows = data_follows (length code) in
    omega (arith, headers, a, b, c, d, follows)

-- ---- the length of the code in a file

word_at : (h p w t r : List ℕ) → length h ≡ 64 → length p ≡ 32 → drop 96 (h ++ ((p ++ (w ++ t)) ++ r)) ≡ w ++ (t ++ r)
word_at h p w t r a b =
    let same : h ++ ((p ++ (w ++ t)) ++ r) ≡ (h ++ p) ++ (w ++ (t ++ r)) = simp append_assoc in
    ap (drop 96) same ∙ drop_at (h ++ p) (w ++ (t ++ r)) 96 (omega (arith, length-append h p, a, b))

word_ends : (h p w t r : List ℕ) → length h ≡ 64 → length p ≡ 32 → length w ≡ 8 → 104 ≤ length (h ++ ((p ++ (w ++ t)) ++ r))
word_ends h p w t r a b c =
    omega (arith, a, b, c, length-append h ((p ++ (w ++ t)) ++ r), length-append (p ++ (w ++ t)) r, length-append p (w ++ t), length-append w t)

word_read : (n : ℕ) (bytes rest : List ℕ) → n < 256 ^ 8 → drop 96 bytes ≡ number_bytes 8 n ++ rest → little_number 8 (drop 96 bytes) ≡ n
unfolding number_bytes
word_read n bytes rest fits e = ap (little_number 8) e ∙ little_number-reads_back 8 n rest fits

length_judged : (n : ℕ) (bytes : List ℕ) → 104 ≤ length bytes → little_number 8 (drop 96 bytes) ≡ n → is_code_length n ≡ true → code_length_in bytes ≡ n
unfolding code_length_in
length_judged n bytes long read allowed =
    let there : nat_lt (length bytes) 104 ≡ false = le-ltb (length bytes) 104 long in
    chosen_false {A = ℕ} (nat_lt (length bytes) 104) CODE_LENGTH_LIMIT (elim (is_code_length (little_number 8 (drop 96 bytes))) [ true ↦ little_number 8 (drop 96 bytes) | false ↦ CODE_LENGTH_LIMIT ]) there
    ∙ chosen_true {A = ℕ} (is_code_length (little_number 8 (drop 96 bytes))) (little_number 8 (drop 96 bytes)) CODE_LENGTH_LIMIT (ap is_code_length read ∙ allowed)
    ∙ read

-- the entry of a file is judged by the length of its code
pub judged_by_code : (judged_length : ℕ) (s : Segments) (bytes : List ℕ) → (elf judged_length).Holds s → bytes ≡ (elf judged_length).spelled s → code_length_in bytes ≡ length s.code
judged_by_code judged_length s bytes holds spelled =
    let n = length s.code in
    let h = elf_header_bytes s.entry in
    let p = placement_bytes segment.Code 4096 in
    let w = number_bytes 8 n in
    let t = number_bytes 8 n ++ number_bytes 8 4096 in
    let r = program_header_bytes segment.Data (data_offset n) (length s.initial) ++ body_bytes s.code s.initial in
    let a = header_long s.entry in
    let b = placement_long segment.Code 4096 in
    let found : drop 96 bytes ≡ w ++ (t ++ r) = ap (drop 96) spelled ∙ word_at h p w t r a b in
    let long : 104 ≤ length bytes = subst (λ (b : List ℕ). 104 ≤ length b) (sym spelled) (word_ends h p w t r a b (length-number_bytes 8 n)) in
    length_judged n bytes long (word_read n bytes (t ++ r) holds.1.0.1.0.0 found) holds.1.0.1.0.1.0
