use Rattle.std.proofs.Common.{◌≡◌, inl, inr, refl}
use Rattle.cmm_work.specs.Standing.{standing}
use Rattle.cmm_work.proofs.FilesRead.{same_outside}
use Rattle.cmm_work.proofs.inspecting.inspect.Goals as goal

pub returns-in-Ok-clause-inspects : goal.returns-in-Ok-clause-inspects
returns-in-Ok-clause-inspects g c = λ streams.
    let read = c.in-Ok.ensures in
    let before = standing g.F.Files.contents g.F.Files.faults g.F.Files.last_failed c.args.files.now streams in
    let after = standing g.F.Files.contents g.F.Files.faults g.F.Files.last_failed c.segments_in.new.files streams in
    let same : after ≡ before = same_outside streams before.files after.files before.file_faults after.file_faults before.last_failed after.last_failed
    read.same read.no_fault read.no_failed_call in
    inl record {
      segments = c.in-Ok.segments;
      spelled = read.spelled;
      nothing = record { same = same; no_image = refl };
      ends = record { line = rw (c.len.ensures, c.len-in-Ok.ensures) refl; status = refl };
    }

pub returns-in-Err-clause-inspects : goal.returns-in-Err-clause-inspects
returns-in-Err-clause-inspects g c = λ streams. inr (c.in-Err.ensures.err streams)
