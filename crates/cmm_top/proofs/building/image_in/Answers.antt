use Rattle.std.proofs.Common.{◌≡◌, Bor, List, ℕ, None, inl, inr, map, sym, subst}
use Rattle.cmm_compile.specs.Agreement.{Agree}
use Rattle.cmm_work.specs.Standing.{standing}
use Rattle.cmm_top.specs.Units.{HaveNoImage}
use Rattle.cmm_work.specs.declared.ending.Ending.{Ending}
use Rattle.cmm_work.specs.Ending.{work_of}
use Rattle.cmm_top.specs.inside.Reading.{AreUnits}
use Rattle.cmm_work.proofs.Shared.{same_outside, handed, read_whole}
use Rattle.cmm_top.proofs.FilesRead.{units_so}
use Rattle.cmm_top.proofs.Refusing.{no_image}
use Rattle.cmm_top.specs.Reads.{units_in}
use Rattle.cmm_top.proofs.building.image_in.Goals as goal

pub returns-in_err-image-clause-err : goal.returns-in_err-image-clause-err
returns-in_err-image-clause-err g c = λ streams.
    let names = map (λ (name : Bor (List ℕ)). name.now) c.args.names.now in
    let before = standing g.F.Files.contents g.F.Files.faults g.F.Files.last_failed c.args.files.now streams in
    let after = standing g.F.Files.contents g.F.Files.faults g.F.Files.last_failed c.sources_of.new.files streams in
    let same : after ≡ before = same_outside streams before.files after.files before.file_faults after.file_faults before.last_failed after.last_failed
    c.in_ok-sources.ensures.same c.in_ok-sources.ensures.fault.0 c.in_ok-sources.ensures.fault.1 in
    handed c.from_residual-in_err-image.result _ (λ (end : Ending). HaveNoImage names names (work_of end None before after))
    (λ end is.
    let refused : end ≡ c.in_err-image.field-0.0 = is in
    elim (no_image names before after c.in_ok-sources.sources c.in_err-image.field-0.0 same c.in_ok-sources.ensures.ok c.in_err-image.ensures.err) [
      | inl broken ↦ subst (λ (e : Ending). HaveNoImage names names (work_of e None before after)) (sym refused) (inl broken)
      | inr memory ↦ subst (λ (e : Ending). HaveNoImage names names (work_of e None before after)) (sym refused) (inr (inr memory))
    ])
    c.from_residual-in_err-image.ensures.1

pub returns-clause-ok : goal.returns-clause-ok
returns-clause-ok g c =
    units_so (g.F.Files.contents c.args.files.now) (map (λ (name : Bor (List ℕ)). name.now) c.args.names.now) (λ units. AreUnits units c.in_ok-sources.sources)
    (λ units. Agree units c.in_ok-image.image) (λ units are. c.in_ok-image.ensures.ok units are) c.in_ok-sources.ensures.ok

pub returns-in_err-image-clause-reads : goal.returns-in_err-image-clause-reads
returns-in_err-image-clause-reads g c = read_whole (units_in (map (λ (name : Bor (List ℕ)). name.now) c.args.names.now)) _ _ c.in_ok-sources.ensures.reads

pub returns-clause-reads : goal.returns-clause-reads
returns-clause-reads g c = read_whole (units_in (map (λ (name : Bor (List ℕ)). name.now) c.args.names.now)) _ _ c.in_ok-sources.ensures.reads
