use Rattle.std.proofs.Common.{◌≡◌, ◌++◌, refl, Bor, List, ℕ, Option, None, inl, inr, map, sym, subst, ◌∙◌}
use Rattle.std.specs.Option.{option_map}
use Rattle.cmm_compile.specs.Agreement.{Agree}
use Rattle.cmm_outside.specs.Storage.{Contents}
use Rattle.cmm_work.specs.Standing.{standing}
use Rattle.cmm_top.specs.Executing.{CannotRun}
use Rattle.cmm_work.specs.Script.{named_file}
use Rattle.cmm_work.specs.declared.ending.Ending.{Ending}
use Rattle.cmm_work.specs.declared.reading.FileBytes.{FileBytes}
use Rattle.cmm_top.specs.declared.sources.Sources.{Sources}
use Rattle.cmm_work.specs.Ending.{work_of}
use Rattle.cmm_top.specs.inside.Reading.{AreUnits}
use Rattle.cmm_work.specs.Reading.{IsClientRead}
use Rattle.cmm_work.proofs.Shared.{same_outside, fails_before, fails_behind, handed, no_script_in, unread, read_all, read_first, read_part}
use Rattle.cmm_top.proofs.FilesRead.{units_so}
use Rattle.cmm_top.proofs.Refusing.{no_image}
use Rattle.cmm_work.specs.Reads.{script_in}
use Rattle.cmm_top.specs.Reads.{units_in}
use Rattle.cmm_top.proofs.executing.prepare.Goals as goal

pub returns-in_err-sources-clause-err : goal.returns-in_err-sources-clause-err
returns-in_err-sources-clause-err g c = λ streams.
    let names = map (λ (name : Bor (List ℕ)). name.now) c.args.names.now in
    let client = option_map (λ (name : Bor (List ℕ)). name.now) c.args.client in
    let before = standing g.F.Files.contents g.F.Files.faults g.F.Files.last_failed c.args.files.now streams in
    let after = standing g.F.Files.contents g.F.Files.faults g.F.Files.last_failed c.sources_of.new.files streams in
    let fault = c.in_err-sources.field-0.0 in
    handed c.from_residual.result _ (λ (end : Ending). CannotRun names client (work_of end None before after))
    (λ end is. inr (inr (unread Sources (names ++ named_file client) before after fault end c.in_err-sources.ensures.same refl
    (fails_before Sources names (named_file client) before.file_faults after.file_faults before.last_failed after.last_failed fault c.in_err-sources.ensures.fault) is)))
    c.from_residual.ensures.1

pub returns-in_err-read-clause-err : goal.returns-in_err-read-clause-err
returns-in_err-read-clause-err g c = λ streams.
    let names = map (λ (name : Bor (List ℕ)). name.now) c.args.names.now in
    let client = option_map (λ (name : Bor (List ℕ)). name.now) c.args.client in
    let before = standing g.F.Files.contents g.F.Files.faults g.F.Files.last_failed c.args.files.now streams in
    let mid = standing g.F.Files.contents g.F.Files.faults g.F.Files.last_failed c.sources_of.new.files streams in
    let after = standing g.F.Files.contents g.F.Files.faults g.F.Files.last_failed c.client_in.new.files streams in
    let fault = c.in_err-read.field-0.0 in
    handed c.from_residual-in_err-read.result _ (λ (end : Ending). CannotRun names client (work_of end None before after))
    (λ end is. inr (inr (unread (Option FileBytes) (names ++ named_file client) before after fault end (c.in_err-read.ensures.same ∙ c.in_ok-sources.ensures.same) refl
    (fails_behind (Option FileBytes) names (named_file client) before.file_faults mid.file_faults after.file_faults before.last_failed mid.last_failed after.last_failed fault
    c.in_ok-sources.ensures.fault.0 c.in_ok-sources.ensures.fault.1 c.in_err-read.ensures.fault) is)))
    c.from_residual-in_err-read.ensures.1

pub returns-in_err-image-clause-err : goal.returns-in_err-image-clause-err
returns-in_err-image-clause-err g c = λ streams.
    let names = map (λ (name : Bor (List ℕ)). name.now) c.args.names.now in
    let client = option_map (λ (name : Bor (List ℕ)). name.now) c.args.client in
    let before = standing g.F.Files.contents g.F.Files.faults g.F.Files.last_failed c.args.files.now streams in
    let after = standing g.F.Files.contents g.F.Files.faults g.F.Files.last_failed c.client_in.new.files streams in
    let same : after ≡ before = same_outside streams before.files after.files before.file_faults after.file_faults before.last_failed after.last_failed
    (c.in_ok-read.ensures.same ∙ c.in_ok-sources.ensures.same) (c.in_ok-read.ensures.fault.0 ∙ c.in_ok-sources.ensures.fault.0) (c.in_ok-read.ensures.fault.1 ∙ c.in_ok-sources.ensures.fault.1) in
    handed c.from_residual-in_err-image.result _ (λ (end : Ending). CannotRun names client (work_of end None before after))
    (λ end is.
    let refused : end ≡ c.in_err-image.field-0.0 = is in
    elim (no_image names before after c.in_ok-sources.sources c.in_err-image.field-0.0 same c.in_ok-sources.ensures.ok c.in_err-image.ensures.err) [
      | inl broken ↦ subst (λ (e : Ending). CannotRun names client (work_of e None before after)) (sym refused) (inr (inl broken))
      | inr memory ↦ subst (λ (e : Ending). CannotRun names client (work_of e None before after)) (sym refused) (inr (inr (inr memory)))
    ])
    c.from_residual-in_err-image.ensures.1

pub returns-in_err-script-clause-err : goal.returns-in_err-script-clause-err
returns-in_err-script-clause-err g c = λ streams.
    let names = map (λ (name : Bor (List ℕ)). name.now) c.args.names.now in
    let client = option_map (λ (name : Bor (List ℕ)). name.now) c.args.client in
    let before = standing g.F.Files.contents g.F.Files.faults g.F.Files.last_failed c.args.files.now streams in
    let after = standing g.F.Files.contents g.F.Files.faults g.F.Files.last_failed c.client_in.new.files streams in
    let same : after ≡ before = same_outside streams before.files after.files before.file_faults after.file_faults before.last_failed after.last_failed
    (c.in_ok-read.ensures.same ∙ c.in_ok-sources.ensures.same) (c.in_ok-read.ensures.fault.0 ∙ c.in_ok-sources.ensures.fault.0) (c.in_ok-read.ensures.fault.1 ∙ c.in_ok-sources.ensures.fault.1) in
    let agrees = units_so before.files names (λ units. AreUnits units c.in_ok-sources.sources) (λ units. Agree units c.in_ok-image.image)
    (λ units are. c.in_ok-image.ensures.ok units are) c.in_ok-sources.ensures.ok in
    let read = subst (λ (told : Option Contents). IsClientRead told client c.in_ok-read.read) c.in_ok-sources.ensures.same c.in_ok-read.ensures.ok in
    handed c.from_residual-in_err-script.result _ (λ (end : Ending). CannotRun names client (work_of end None before after))
    (λ end is.
    let refused : end ≡ c.in_err-script.field-0.0 = is in
    elim (no_script_in client before after c.in_ok-read.read c.in_err-script.field-0.0 same read c.in_err-script.ensures.err) [
      | inl bad ↦ subst (λ (e : Ending). CannotRun names client (work_of e None before after)) (sym refused)
          (inl record { image = c.in_ok-image.image; agrees = agrees; bad = bad })
      | inr memory ↦ subst (λ (e : Ending). CannotRun names client (work_of e None before after)) (sym refused) (inr (inr (inr memory)))
    ])
    c.from_residual-in_err-script.ensures.1

pub returns-clause-agrees : goal.returns-clause-agrees
returns-clause-agrees g c =
    units_so (g.F.Files.contents c.args.files.now) (map (λ (name : Bor (List ℕ)). name.now) c.args.names.now) (λ units. AreUnits units c.in_ok-sources.sources)
    (λ units. Agree units c.in_ok-image.image) (λ units are. c.in_ok-image.ensures.ok units are) c.in_ok-sources.ensures.ok

pub returns-in_err-sources-clause-reads : goal.returns-in_err-sources-clause-reads
returns-in_err-sources-clause-reads g c = read_first (units_in (map (λ (name : Bor (List ℕ)). name.now) c.args.names.now)) (script_in (option_map (λ (name : Bor (List ℕ)). name.now) c.args.client)) _ _ c.in_err-sources.ensures.reads

pub returns-in_err-read-clause-reads : goal.returns-in_err-read-clause-reads
returns-in_err-read-clause-reads g c = read_part (units_in (map (λ (name : Bor (List ℕ)). name.now) c.args.names.now)) (script_in (option_map (λ (name : Bor (List ℕ)). name.now) c.args.client)) _ _ _ c.in_ok-sources.ensures.reads c.in_err-read.ensures.reads

pub returns-in_err-image-clause-reads : goal.returns-in_err-image-clause-reads
returns-in_err-image-clause-reads g c = read_all (units_in (map (λ (name : Bor (List ℕ)). name.now) c.args.names.now)) (script_in (option_map (λ (name : Bor (List ℕ)). name.now) c.args.client)) _ _ _ c.in_ok-sources.ensures.reads c.in_ok-read.ensures.reads

pub returns-in_err-script-clause-reads : goal.returns-in_err-script-clause-reads
returns-in_err-script-clause-reads g c = read_all (units_in (map (λ (name : Bor (List ℕ)). name.now) c.args.names.now)) (script_in (option_map (λ (name : Bor (List ℕ)). name.now) c.args.client)) _ _ _ c.in_ok-sources.ensures.reads c.in_ok-read.ensures.reads

pub returns-clause-reads : goal.returns-clause-reads
returns-clause-reads g c = read_all (units_in (map (λ (name : Bor (List ℕ)). name.now) c.args.names.now)) (script_in (option_map (λ (name : Bor (List ℕ)). name.now) c.args.client)) _ _ _ c.in_ok-sources.ensures.reads c.in_ok-read.ensures.reads
