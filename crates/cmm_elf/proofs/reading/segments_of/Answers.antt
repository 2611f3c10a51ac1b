use Rattle.std.proofs.Common.{ℕ, subst}
use Rattle.cmm_format.specs.Reading.{Gives}
use Rattle.cmm_format.specs.Wholes.{whole_in}
use Rattle.cmm_elf.specs.ElfFormat.{elf}
use Rattle.cmm_elf.specs.ElfFiles.{elf_ends}
use Rattle.cmm_elf.proofs.reading.segments_of.Goals as goal

-- the entry is judged by the length that is read of the bytes
pub returns : goal.returns
returns c = subst (λ (n : ℕ). Gives c.segments_judged.result (whole_in (elf n) elf_ends c.args.bytes.now)) c.code_length.ensures c.segments_judged.ensures
