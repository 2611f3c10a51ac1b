use Rattle.std.proofs.Common.{◌≡◌, ◌∷◌, [], None, inl, inr, refl, subst, sym}
use Rattle.cmm_elf.specs.ElfFiles.{SpellsElf}
use Rattle.cmm_elf.specs.declared.reading.TheConstants.{ELF_LIMIT}
use Rattle.cmm_work.specs.Standing.{standing}
use Rattle.cmm_work.specs.Inspecting.{CannotInspect}
use Rattle.cmm_work.specs.Reads.{elf_file_in}
use Rattle.cmm_work.specs.declared.ending.Ending.{Ending}
use Rattle.cmm_work.specs.declared.reading.FileBytes.{FileBytes}
use Rattle.cmm_work.specs.Ending.{work_of}
use Rattle.cmm_work.specs.Reading.{IsFileOf}
use Rattle.cmm_work.proofs.FilesRead.{bytes_so, same_outside}
use Rattle.cmm_work.proofs.Preparing.{handed, holds_no_elf, unread}
use Rattle.cmm_work.proofs.ReadsMade.{read_whole}
use Rattle.cmm_work.proofs.inspecting.segments_in.Goals as goal

pub returns-in_err-bytes-clause-err : goal.returns-in_err-bytes-clause-err
returns-in_err-bytes-clause-err g c = λ streams.
    let name = c.args.name.now in
    let before = standing g.F.Files.contents g.F.Files.faults g.F.Files.last_failed c.args.files.now streams in
    let after = standing g.F.Files.contents g.F.Files.faults g.F.Files.last_failed c.bytes_in.new.files streams in
    let fault = c.in_err-bytes.field-0.0 in
    handed c.from_residual.result _ (λ (end : Ending). CannotInspect name (work_of end None before after))
    (λ end is. inr (unread FileBytes (name ∷ []) before after fault end c.in_err-bytes.ensures.same refl c.in_err-bytes.ensures.fault is))
    c.from_residual.ensures.1

pub returns-in_err-segments-clause-err : goal.returns-in_err-segments-clause-err
returns-in_err-segments-clause-err g c = λ streams.
    let name = c.args.name.now in
    let before = standing g.F.Files.contents g.F.Files.faults g.F.Files.last_failed c.args.files.now streams in
    let after = standing g.F.Files.contents g.F.Files.faults g.F.Files.last_failed c.bytes_in.new.files streams in
    let same : after ≡ before = same_outside streams before.files after.files before.file_faults after.file_faults before.last_failed after.last_failed
    c.in_ok-bytes.ensures.same c.in_ok-bytes.ensures.fault.0 c.in_ok-bytes.ensures.fault.1 in
    handed c.from_residual-in_err-segments.result _ (λ (end : Ending). CannotInspect name (work_of end None before after))
    (λ end is.
    let refused : end ≡ c.in_err-segments.field-0.0 = is in
    elim (holds_no_elf name before after c.in_ok-bytes.bytes c.in_err-segments.field-0.0 same c.in_ok-bytes.ensures.ok c.in_err-segments.ensures.err) [
      | inl none ↦ subst (λ (e : Ending). CannotInspect name (work_of e None before after)) (sym refused) (inl none)
      | inr memory ↦ subst (λ (e : Ending). CannotInspect name (work_of e None before after)) (sym refused) (inr (inr memory))
    ])
    c.from_residual-in_err-segments.ensures.1

pub returns-clause-spelled : goal.returns-clause-spelled
returns-clause-spelled g c =
    bytes_so (g.F.Files.contents c.args.files.now) c.args.name.now (λ bytes. IsFileOf ELF_LIMIT bytes c.in_ok-bytes.bytes) (λ bytes. SpellsElf bytes c.in_ok-segments.segments)
    (λ bytes is. c.in_ok-segments.ensures.ok bytes is) c.in_ok-bytes.ensures.ok

pub returns-in_err-bytes-clause-reads : goal.returns-in_err-bytes-clause-reads
returns-in_err-bytes-clause-reads g c = c.in_err-bytes.ensures.reads

pub returns-in_err-segments-clause-reads : goal.returns-in_err-segments-clause-reads
returns-in_err-segments-clause-reads g c = read_whole (elf_file_in c.args.name.now ∷ []) _ _ c.in_ok-bytes.ensures.reads

pub returns-clause-reads : goal.returns-clause-reads
returns-clause-reads g c = read_whole (elf_file_in c.args.name.now ∷ []) _ _ c.in_ok-bytes.ensures.reads
