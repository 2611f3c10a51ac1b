use Rattle.std.proofs.Common.{◌≡◌, ◌∙◌, ℕ, List, Result, Err, IfErr, ap, subst}
use Rattle.cmm_format.proofs.Shared.{long-breaks}
use Rattle.cmm_elf.specs.ElfFiles.{ElfFaultAt, IsFirstFault, elf_ends}
use Rattle.cmm_elf.specs.declared.fault.ElfFault.{ElfFault}
use Rattle.cmm_elf.specs.declared.reading.TheConstants.{ELF_LIMIT}
use Rattle.cmm_elf.specs.declared.segments.Segments.{Segments}
use Rattle.cmm_work.specs.declared.reading.FileBytes.{FileBytes}
use Rattle.cmm_work.specs.Reading.{IsFileOf}
use Rattle.cmm_work.proofs.inspecting.segments_of.Goals as goal

pub returns-in-TooLong-clause-err : goal.returns-in-TooLong-clause-err
returns-in-TooLong-clause-err c = λ bytes is. long-breaks elf_ends bytes (subst (λ (r : FileBytes). IsFileOf ELF_LIMIT bytes r) c.in-TooLong.is is)

pub returns-in-Err-At-clause-err : goal.returns-in-Err-At-clause-err
returns-in-Err-At-clause-err c = λ bytes is.
    let same : c.in-Whole.bytes.items ≡ bytes = subst (λ (r : FileBytes). IsFileOf ELF_LIMIT bytes r) c.in-Whole.is is in
    subst (λ (bs : List ℕ). IsFirstFault bs c.in-Err-At.rule c.in-Err-At.offset) (c.deref.ensures.value ∙ same)
    (subst (λ (r : Result Segments ElfFault). IfErr r (ElfFaultAt c.deref.result.now)) (c.in-Err-At.is ∙ ap Err c.in-Err-At.field-0-is) c.read_elf.ensures.err)
