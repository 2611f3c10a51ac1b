use Rattle.std.proofs.Common.{◌≡◌, ◌∷◌, [], refl, Option, None, inl, inr, sym, subst, ◌∙◌}
use Rattle.cmm_image.specs.Images.{SpellsImage}
use Rattle.cmm_image.specs.declared.reading.TheConstants.{IMAGE_LIMIT}
use Rattle.cmm_outside.specs.Storage.{Contents}
use Rattle.cmm_snapshot.specs.SnapshotFormat.{taken_of}
use Rattle.cmm_snapshot.specs.Snapshots.{SpellsSnapshot}
use Rattle.cmm_snapshot.specs.declared.reading.TheConstants.{SNAPSHOT_LIMIT}
use Rattle.cmm_work.specs.Standing.{standing}
use Rattle.cmm_work.specs.Files.{HasBytes}
use Rattle.cmm_work.specs.Walking.{CannotWalk}
use Rattle.cmm_work.specs.declared.ending.Ending.{Ending}
use Rattle.cmm_work.specs.declared.reading.FileBytes.{FileBytes}
use Rattle.cmm_work.specs.Ending.{work_of}
use Rattle.cmm_work.specs.Reading.{IsFileOf}
use Rattle.cmm_work.proofs.FilesRead.{bytes_so, same_outside}
use Rattle.cmm_work.proofs.Preparing.{fails_before, fails_behind, handed, holds_no_image, holds_no_snapshot, unread}
use Rattle.cmm_work.proofs.ReadsMade.{read_all, read_first, read_part}
use Rattle.cmm_work.specs.Reads.{image_in, snapshot_in}
use Rattle.cmm_work.proofs.walking.prepare.Goals as goal

pub returns-in_err-bytes-clause-err : goal.returns-in_err-bytes-clause-err
returns-in_err-bytes-clause-err g c = λ streams.
    let name = c.args.name.now in
    let snapshot = c.args.snapshot.now in
    let before = standing g.F.Files.contents g.F.Files.faults g.F.Files.last_failed c.args.files.now streams in
    let after = standing g.F.Files.contents g.F.Files.faults g.F.Files.last_failed c.bytes_in.new.files streams in
    let fault = c.in_err-bytes.field-0.0 in
    handed c.from_residual.result _ (λ (end : Ending). CannotWalk name snapshot (work_of end None before after))
    (λ end is. inr (inr (unread FileBytes (name ∷ snapshot ∷ []) before after fault end c.in_err-bytes.ensures.same refl
    (fails_before FileBytes (name ∷ []) (snapshot ∷ []) before.file_faults after.file_faults before.last_failed after.last_failed fault c.in_err-bytes.ensures.fault) is)))
    c.from_residual.ensures.1

pub returns-in_err-taken-clause-err : goal.returns-in_err-taken-clause-err
returns-in_err-taken-clause-err g c = λ streams.
    let name = c.args.name.now in
    let snapshot = c.args.snapshot.now in
    let before = standing g.F.Files.contents g.F.Files.faults g.F.Files.last_failed c.args.files.now streams in
    let mid = standing g.F.Files.contents g.F.Files.faults g.F.Files.last_failed c.bytes_in.new.files streams in
    let after = standing g.F.Files.contents g.F.Files.faults g.F.Files.last_failed c.bytes_in-2.new.files streams in
    let fault = c.in_err-taken.field-0.0 in
    handed c.from_residual-in_err-taken.result _ (λ (end : Ending). CannotWalk name snapshot (work_of end None before after))
    (λ end is. inr (inr (unread FileBytes (name ∷ snapshot ∷ []) before after fault end (c.in_err-taken.ensures.same ∙ c.in_ok-bytes.ensures.same) refl
    (fails_behind FileBytes (name ∷ []) (snapshot ∷ []) before.file_faults mid.file_faults after.file_faults before.last_failed mid.last_failed after.last_failed fault
    c.in_ok-bytes.ensures.fault.0 c.in_ok-bytes.ensures.fault.1 c.in_err-taken.ensures.fault) is)))
    c.from_residual-in_err-taken.ensures.1

pub returns-in_err-image-clause-err : goal.returns-in_err-image-clause-err
returns-in_err-image-clause-err g c = λ streams.
    let name = c.args.name.now in
    let snapshot = c.args.snapshot.now in
    let before = standing g.F.Files.contents g.F.Files.faults g.F.Files.last_failed c.args.files.now streams in
    let after = standing g.F.Files.contents g.F.Files.faults g.F.Files.last_failed c.bytes_in-2.new.files streams in
    let same : after ≡ before = same_outside streams before.files after.files before.file_faults after.file_faults before.last_failed after.last_failed
    (c.in_ok-taken.ensures.same ∙ c.in_ok-bytes.ensures.same) (c.in_ok-taken.ensures.fault.0 ∙ c.in_ok-bytes.ensures.fault.0) (c.in_ok-taken.ensures.fault.1 ∙ c.in_ok-bytes.ensures.fault.1) in
    handed c.from_residual-in_err-image.result _ (λ (end : Ending). CannotWalk name snapshot (work_of end None before after))
    (λ end is.
    let refused : end ≡ c.in_err-image.field-0.0 = is in
    elim (holds_no_image name before after c.in_ok-bytes.bytes c.in_err-image.field-0.0 same c.in_ok-bytes.ensures.ok c.in_err-image.ensures.err) [
      | inl none ↦ subst (λ (e : Ending). CannotWalk name snapshot (work_of e None before after)) (sym refused) (inr (inl none))
      | inr memory ↦ subst (λ (e : Ending). CannotWalk name snapshot (work_of e None before after)) (sym refused) (inr (inr (inr memory)))
    ])
    c.from_residual-in_err-image.ensures.1

pub returns-in_err-halted-clause-err : goal.returns-in_err-halted-clause-err
returns-in_err-halted-clause-err g c = λ streams.
    let name = c.args.name.now in
    let snapshot = c.args.snapshot.now in
    let before = standing g.F.Files.contents g.F.Files.faults g.F.Files.last_failed c.args.files.now streams in
    let after = standing g.F.Files.contents g.F.Files.faults g.F.Files.last_failed c.bytes_in-2.new.files streams in
    let same : after ≡ before = same_outside streams before.files after.files before.file_faults after.file_faults before.last_failed after.last_failed
    (c.in_ok-taken.ensures.same ∙ c.in_ok-bytes.ensures.same) (c.in_ok-taken.ensures.fault.0 ∙ c.in_ok-bytes.ensures.fault.0) (c.in_ok-taken.ensures.fault.1 ∙ c.in_ok-bytes.ensures.fault.1) in
    let spelled = bytes_so before.files name (λ bytes. IsFileOf IMAGE_LIMIT bytes c.in_ok-bytes.bytes) (λ bytes. SpellsImage bytes c.in_ok-image.image)
    (λ bytes is. c.in_ok-image.ensures.ok bytes is) c.in_ok-bytes.ensures.ok in
    let read = subst (λ (told : Option Contents). HasBytes told snapshot (λ bytes. IsFileOf SNAPSHOT_LIMIT bytes c.in_ok-taken.taken)) c.in_ok-bytes.ensures.same c.in_ok-taken.ensures.ok in
    handed c.from_residual-in_err-halted.result _ (λ (end : Ending). CannotWalk name snapshot (work_of end None before after))
    (λ end is.
    let refused : end ≡ c.in_err-halted.field-0.0 = is in
    elim (holds_no_snapshot name snapshot c.in_ok-image.image before after c.in_ok-taken.taken c.in_err-halted.field-0.0 same spelled read c.in_err-halted.ensures.err) [
      | inl bad ↦ subst (λ (e : Ending). CannotWalk name snapshot (work_of e None before after)) (sym refused) (inl bad)
      | inr memory ↦ subst (λ (e : Ending). CannotWalk name snapshot (work_of e None before after)) (sym refused) (inr (inr (inr memory)))
    ])
    c.from_residual-in_err-halted.ensures.1

pub returns-clause-spelled : goal.returns-clause-spelled
returns-clause-spelled g c =
    bytes_so (g.F.Files.contents c.args.files.now) c.args.name.now (λ bytes. IsFileOf IMAGE_LIMIT bytes c.in_ok-bytes.bytes) (λ bytes. SpellsImage bytes c.in_ok-image.image)
    (λ bytes is. c.in_ok-image.ensures.ok bytes is) c.in_ok-bytes.ensures.ok

pub returns-clause-stopped : goal.returns-clause-stopped
returns-clause-stopped g c =
    let h = c.in_ok-halted.halted in
    bytes_so (g.F.Files.contents c.args.files.now) c.args.snapshot.now (λ bytes. IsFileOf SNAPSHOT_LIMIT bytes c.in_ok-taken.taken)
    (λ bytes. SpellsSnapshot c.in_ok-image.image bytes (taken_of h.regs h.memory)) (λ bytes is. c.in_ok-halted.ensures.ok bytes is)
    (subst (λ (told : Option Contents). HasBytes told c.args.snapshot.now (λ bytes. IsFileOf SNAPSHOT_LIMIT bytes c.in_ok-taken.taken)) c.in_ok-bytes.ensures.same c.in_ok-taken.ensures.ok)

pub returns-in_err-bytes-clause-reads : goal.returns-in_err-bytes-clause-reads
returns-in_err-bytes-clause-reads g c = read_first (image_in c.args.name.now ∷ []) (snapshot_in c.args.snapshot.now ∷ []) _ _ c.in_err-bytes.ensures.reads

pub returns-in_err-taken-clause-reads : goal.returns-in_err-taken-clause-reads
returns-in_err-taken-clause-reads g c = read_part (image_in c.args.name.now ∷ []) (snapshot_in c.args.snapshot.now ∷ []) _ _ _ c.in_ok-bytes.ensures.reads c.in_err-taken.ensures.reads

pub returns-in_err-image-clause-reads : goal.returns-in_err-image-clause-reads
returns-in_err-image-clause-reads g c = read_all (image_in c.args.name.now ∷ []) (snapshot_in c.args.snapshot.now ∷ []) _ _ _ c.in_ok-bytes.ensures.reads c.in_ok-taken.ensures.reads

pub returns-in_err-halted-clause-reads : goal.returns-in_err-halted-clause-reads
returns-in_err-halted-clause-reads g c = read_all (image_in c.args.name.now ∷ []) (snapshot_in c.args.snapshot.now ∷ []) _ _ _ c.in_ok-bytes.ensures.reads c.in_ok-taken.ensures.reads

pub returns-clause-reads : goal.returns-clause-reads
returns-clause-reads g c = read_all (image_in c.args.name.now ∷ []) (snapshot_in c.args.snapshot.now ∷ []) _ _ _ c.in_ok-bytes.ensures.reads c.in_ok-taken.ensures.reads
