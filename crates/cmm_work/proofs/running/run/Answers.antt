use Rattle.std.proofs.Common.{◌≡◌, ◌∷◌, Bor, List, ℕ, Option, None, inl, refl, subst, sym}
use Rattle.std.specs.Option.{option_map}
use Rattle.cmm_image_machine.specs.Machine.{Launch}
use Rattle.cmm_run.specs.Outside.{outside_of}
use Rattle.cmm_run.specs.Sessions.{machine_of}
use Rattle.cmm_work.specs.Standing.{Outside, standing}
use Rattle.cmm_work.specs.Saving.{Saves, is_stopped, saved_to}
use Rattle.cmm_work.specs.Ending.{work_of}
use Rattle.cmm_work.proofs.FilesRead.{same_outside}
use Rattle.cmm_outside.specs.Reads.{AreReadInOrder, Made, ReadCall}
use Rattle.cmm_work.specs.Reads.{image_in, script_in}
use Rattle.cmm_work.proofs.running.run.Goals as goal

pub returns-in-Ok-run_image-clause-runs : goal.returns-in-Ok-run_image-clause-runs
returns-in-Ok-run_image-clause-runs g c =
    let streams = outside_of g.I.Source.left g.I.Source.faults g.O.Sink.taken g.O.Sink.faults g.E.Sink.taken g.E.Sink.faults in
    let first = streams c.args.input.now c.args.out.now c.args.log.now in
    let last = streams c.run_image.new.input c.run_image.new.out c.run_image.new.log in
    let stands = standing g.F.Files.contents g.F.Files.faults g.F.Files.last_failed in
    let before = stands c.args.files.now first in
    let mid = stands c.prepare.new.files first in
    let after = stands c.left_by.new.files last in
    let read = c.in-Ok.ensures in
    let ran = c.in-Ok-run_image.ensures.runs in
    let outcome = c.in-Ok-run_image.outcome in
    let session = c.in-Ok-run_image.session in
    let machine = machine_of session in
    let to = saved_to (is_stopped outcome) (option_map (λ (name : Bor (List ℕ)). name.now) c.args.save) in
    let same : mid ≡ before = same_outside first before.files mid.files before.file_faults mid.file_faults before.last_failed mid.last_failed read.same read.no_fault read.no_failed_call in
    inl record {
      image = c.in-Ok.prepared.image;
      no_image = refl;
      spelled = read.spelled;
      script = c.in-Ok.prepared.script;
      has_script = read.script;
      outcome = outcome;
      machine = machine;
      runs = ran.runs;
      saves = subst (λ (l : Launch). Saves l.image l.stack_size machine outcome to (work_of c.left_by.result None before after)) ran.launch
          (subst (λ (b : Outside). Saves session.launch.image session.launch.stack_size machine outcome to (work_of c.left_by.result None b after)) same (c.left_by.ensures.saves first last));
    }

pub returns-in-Ok-run_image-clause-reads : goal.returns-in-Ok-run_image-clause-reads
returns-in-Ok-run_image-clause-reads g c =
    subst (λ (after : Option (List ReadCall)). Made (g.F.Files.reads c.args.files.now) after
    (AreReadInOrder (image_in c.args.name.now ∷ script_in (option_map (λ (name : Bor (List ℕ)). name.now) c.args.client)))) (sym c.left_by.ensures.same_reads) c.prepare.ensures.reads
