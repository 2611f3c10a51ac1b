use Rattle.std.proofs.Common.{◌≡◌, ◌∷◌, [], refl, Bor, List, ℕ, Option, None, inl, inr, sym, subst, ◌∙◌}
use Rattle.std.specs.Option.{option_map}
use Rattle.cmm_image.specs.Images.{SpellsImage}
use Rattle.cmm_image.specs.declared.reading.TheConstants.{IMAGE_LIMIT}
use Rattle.cmm_outside.specs.Storage.{Contents}
use Rattle.cmm_work.specs.Standing.{standing}
use Rattle.cmm_work.specs.Running.{CannotRun}
use Rattle.cmm_work.specs.Script.{named_file}
use Rattle.cmm_work.specs.declared.ending.Ending.{Ending}
use Rattle.cmm_work.specs.declared.reading.FileBytes.{FileBytes}
use Rattle.cmm_work.specs.Ending.{work_of}
use Rattle.cmm_work.specs.Reading.{IsClientRead, IsFileOf}
use Rattle.cmm_work.proofs.FilesRead.{bytes_so, same_outside}
use Rattle.cmm_work.proofs.Preparing.{fails_before, fails_behind, handed, holds_no_image, no_script_in, unread}
use Rattle.cmm_work.proofs.ReadsMade.{read_all, read_first, read_part}
use Rattle.cmm_work.specs.Reads.{image_in, script_in}
use Rattle.cmm_work.proofs.running.prepare.Goals as goal

pub returns-in_err-bytes-clause-err : goal.returns-in_err-bytes-clause-err
returns-in_err-bytes-clause-err g c = λ streams.
    let client = option_map (λ (name : Bor (List ℕ)). name.now) c.args.client in
    let before = standing g.F.Files.contents g.F.Files.faults g.F.Files.last_failed c.args.files.now streams in
    let after = standing g.F.Files.contents g.F.Files.faults g.F.Files.last_failed c.bytes_in.new.files streams in
    handed c.from_residual.result _ (λ (end : Ending). CannotRun c.args.name.now client (work_of end None before after))
    (λ end is. inr (inr (unread FileBytes (c.args.name.now ∷ named_file client) before after c.in_err-bytes.field-0.0 end c.in_err-bytes.ensures.same refl
    (fails_before FileBytes (c.args.name.now ∷ []) (named_file client) before.file_faults after.file_faults before.last_failed after.last_failed c.in_err-bytes.field-0.0 c.in_err-bytes.ensures.fault) is)))
    c.from_residual.ensures.1

pub returns-in_err-read-clause-err : goal.returns-in_err-read-clause-err
returns-in_err-read-clause-err g c = λ streams.
    let client = option_map (λ (name : Bor (List ℕ)). name.now) c.args.client in
    let before = standing g.F.Files.contents g.F.Files.faults g.F.Files.last_failed c.args.files.now streams in
    let mid = standing g.F.Files.contents g.F.Files.faults g.F.Files.last_failed c.bytes_in.new.files streams in
    let after = standing g.F.Files.contents g.F.Files.faults g.F.Files.last_failed c.client_in.new.files streams in
    handed c.from_residual-in_err-read.result _ (λ (end : Ending). CannotRun c.args.name.now client (work_of end None before after))
    (λ end is. inr (inr (unread (Option FileBytes) (c.args.name.now ∷ named_file client) before after c.in_err-read.field-0.0 end (c.in_err-read.ensures.same ∙ c.in_ok-bytes.ensures.same) refl
    (fails_behind (Option FileBytes) (c.args.name.now ∷ []) (named_file client) before.file_faults mid.file_faults after.file_faults before.last_failed mid.last_failed after.last_failed c.in_err-read.field-0.0
    c.in_ok-bytes.ensures.fault.0 c.in_ok-bytes.ensures.fault.1 c.in_err-read.ensures.fault) is)))
    c.from_residual-in_err-read.ensures.1

pub returns-in_err-image-clause-err : goal.returns-in_err-image-clause-err
returns-in_err-image-clause-err g c = λ streams.
    let client = option_map (λ (name : Bor (List ℕ)). name.now) c.args.client in
    let before = standing g.F.Files.contents g.F.Files.faults g.F.Files.last_failed c.args.files.now streams in
    let after = standing g.F.Files.contents g.F.Files.faults g.F.Files.last_failed c.client_in.new.files streams in
    let same : after ≡ before = same_outside streams before.files after.files before.file_faults after.file_faults before.last_failed after.last_failed
    (c.in_ok-read.ensures.same ∙ c.in_ok-bytes.ensures.same) (c.in_ok-read.ensures.fault.0 ∙ c.in_ok-bytes.ensures.fault.0) (c.in_ok-read.ensures.fault.1 ∙ c.in_ok-bytes.ensures.fault.1) in
    handed c.from_residual-in_err-image.result _ (λ (end : Ending). CannotRun c.args.name.now client (work_of end None before after))
    (λ end is.
    let refused : end ≡ c.in_err-image.field-0.0 = is in
    elim (holds_no_image c.args.name.now before after c.in_ok-bytes.bytes c.in_err-image.field-0.0 same c.in_ok-bytes.ensures.ok c.in_err-image.ensures.err) [
      | inl none ↦ subst (λ (e : Ending). CannotRun c.args.name.now client (work_of e None before after)) (sym refused) (inr (inl none))
      | inr memory ↦ subst (λ (e : Ending). CannotRun c.args.name.now client (work_of e None before after)) (sym refused) (inr (inr (inr memory)))
    ])
    c.from_residual-in_err-image.ensures.1

pub returns-in_err-script-clause-err : goal.returns-in_err-script-clause-err
returns-in_err-script-clause-err g c = λ streams.
    let client = option_map (λ (name : Bor (List ℕ)). name.now) c.args.client in
    let before = standing g.F.Files.contents g.F.Files.faults g.F.Files.last_failed c.args.files.now streams in
    let after = standing g.F.Files.contents g.F.Files.faults g.F.Files.last_failed c.client_in.new.files streams in
    let same : after ≡ before = same_outside streams before.files after.files before.file_faults after.file_faults before.last_failed after.last_failed
    (c.in_ok-read.ensures.same ∙ c.in_ok-bytes.ensures.same) (c.in_ok-read.ensures.fault.0 ∙ c.in_ok-bytes.ensures.fault.0) (c.in_ok-read.ensures.fault.1 ∙ c.in_ok-bytes.ensures.fault.1) in
    let spelled = bytes_so before.files c.args.name.now (λ bytes. IsFileOf IMAGE_LIMIT bytes c.in_ok-bytes.bytes) (λ bytes. SpellsImage bytes c.in_ok-image.image)
    (λ bytes is. c.in_ok-image.ensures.ok bytes is) c.in_ok-bytes.ensures.ok in
    let read = subst (λ (told : Option Contents). IsClientRead told client c.in_ok-read.read) c.in_ok-bytes.ensures.same c.in_ok-read.ensures.ok in
    handed c.from_residual-in_err-script.result _ (λ (end : Ending). CannotRun c.args.name.now client (work_of end None before after))
    (λ end is.
    let refused : end ≡ c.in_err-script.field-0.0 = is in
    elim (no_script_in client before after c.in_ok-read.read c.in_err-script.field-0.0 same read c.in_err-script.ensures.err) [
      | inl bad ↦ subst (λ (e : Ending). CannotRun c.args.name.now client (work_of e None before after)) (sym refused)
          (inl record { image = c.in_ok-image.image; spelled = spelled; bad = bad })
      | inr memory ↦ subst (λ (e : Ending). CannotRun c.args.name.now client (work_of e None before after)) (sym refused) (inr (inr (inr memory)))
    ])
    c.from_residual-in_err-script.ensures.1

pub returns-clause-spelled : goal.returns-clause-spelled
returns-clause-spelled g c =
    bytes_so (g.F.Files.contents c.args.files.now) c.args.name.now (λ bytes. IsFileOf IMAGE_LIMIT bytes c.in_ok-bytes.bytes) (λ bytes. SpellsImage bytes c.in_ok-image.image)
    (λ bytes is. c.in_ok-image.ensures.ok bytes is) c.in_ok-bytes.ensures.ok

pub returns-in_err-bytes-clause-reads : goal.returns-in_err-bytes-clause-reads
returns-in_err-bytes-clause-reads g c =
    read_first (image_in c.args.name.now ∷ []) (script_in (option_map (λ (name : Bor (List ℕ)). name.now) c.args.client)) _ _ c.in_err-bytes.ensures.reads

pub returns-in_err-read-clause-reads : goal.returns-in_err-read-clause-reads
returns-in_err-read-clause-reads g c =
    read_part (image_in c.args.name.now ∷ []) (script_in (option_map (λ (name : Bor (List ℕ)). name.now) c.args.client)) _ _ _ c.in_ok-bytes.ensures.reads c.in_err-read.ensures.reads

pub returns-in_err-image-clause-reads : goal.returns-in_err-image-clause-reads
returns-in_err-image-clause-reads g c =
    read_all (image_in c.args.name.now ∷ []) (script_in (option_map (λ (name : Bor (List ℕ)). name.now) c.args.client)) _ _ _ c.in_ok-bytes.ensures.reads c.in_ok-read.ensures.reads

pub returns-in_err-script-clause-reads : goal.returns-in_err-script-clause-reads
returns-in_err-script-clause-reads g c =
    read_all (image_in c.args.name.now ∷ []) (script_in (option_map (λ (name : Bor (List ℕ)). name.now) c.args.client)) _ _ _ c.in_ok-bytes.ensures.reads c.in_ok-read.ensures.reads

pub returns-clause-reads : goal.returns-clause-reads
returns-clause-reads g c =
    read_all (image_in c.args.name.now ∷ []) (script_in (option_map (λ (name : Bor (List ℕ)). name.now) c.args.client)) _ _ _ c.in_ok-bytes.ensures.reads c.in_ok-read.ensures.reads
