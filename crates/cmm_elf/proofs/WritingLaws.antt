-- What is written is the file of the image.
use Rattle.std.proofs.Common.{◌≡◌, ℕ, ◌+◌, ◌≤◌, List, [], ◌++◌, length, ap, subst, arith}
use Rattle.std.proofs.lemmas.List.{length-append}
use Rattle.rv_table.specs.declared.memory_map.TheConstants.{CODE_LENGTH_LIMIT}
use Rattle.cmm_image.specs.declared.parts.ImageParts.{ImageParts}
use Rattle.cmm_image.specs.WholeImage.{header_bytes}
use Rattle.cmm_image.specs.Images.{IsImage}
use Rattle.cmm_image.proofs.Shared.{header_long}
use Rattle.cmm_elf.specs.ElfFormat.{Nothing, elf}
use Rattle.cmm_elf.specs.ElfFiles.{SpellsElf, segments_of}
use Rattle.cmm_elf.specs.inside.Spellings.{elf_bytes}
use Rattle.cmm_elf.proofs.LengthLaws.{code_length_few, data_near, elf_long}

pub image_code_few : (i : ImageParts) → IsImage i → length i.code ≤ CODE_LENGTH_LIMIT
image_code_few i is = code_length_few (length i.code) is.fields.0.1.1.0.1.0

-- bytes of four parts, of which the first has 64
parts_few : (n : ℕ) (header code initial rest : List ℕ) → length header ≡ 64 → length (header ++ (code ++ (initial ++ rest))) ≤ n → 64 + length code + length initial ≤ n
parts_few n header code initial rest long few =
    omega (arith, long, few, length-append header (code ++ (initial ++ rest)), length-append code (initial ++ rest), length-append initial rest)

fields_hold : (i : ImageParts) → IsImage i → (elf (length i.code)).Holds (segments_of i)
fields_hold i is =
    let h = is.fields in
    let five : Nothing × (Nothing × (Nothing × (Nothing × Nothing))) = (tt, (tt, (tt, (tt, tt)))) in (
      ((tt, (tt, (tt, tt))), (h.0.1.1.1.1.0, (tt, (tt, (tt, (tt, (tt, (tt, (tt, (tt, tt)))))))))),
      (
        (five, (h.0.1.1.0, (tt, tt))),
        (
          (five, (h.0.1.1.1.0, (tt, tt))),
          (tt, (h.1.0, (tt, h.1.1.0))),
        ),
      ),
    )

pub written_so : (i : ImageParts) (out : List ℕ) → IsImage i → out ≡ [] ++ elf_bytes i.code i.initial i.start → SpellsElf out (segments_of i)
written_so i out is written =
    let few = parts_few 536870912 (header_bytes i) i.code i.initial _ (header_long i) is.short in
    let near = data_near (length i.code) in
    let spelled : out ≡ elf_bytes i.code i.initial i.start = written in
    record {
      fields = fields_hold i is;
      spelled = spelled;
      short = omega (arith, ap length spelled, elf_long i.code i.initial i.start, few, near);
    }

-- what is behind nothing, of the parts of an image
pub from_parts : (i parts : ImageParts) (before out : List ℕ) → parts ≡ i → before ≡ [] → out ≡ before ++ elf_bytes parts.code parts.initial parts.start → out ≡ [] ++ elf_bytes i.code i.initial i.start
from_parts i parts before out same none e =
    subst (λ (p : ImageParts). out ≡ [] ++ elf_bytes p.code p.initial p.start) same (subst (λ (b : List ℕ). out ≡ b ++ elf_bytes parts.code parts.initial parts.start) none e)
