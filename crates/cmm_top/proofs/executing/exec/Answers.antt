use Rattle.std.proofs.Common.{Some, ap, inl, refl, ◌∙◌}
use Rattle.cmm_image_machine.specs.Machine.{Launch}
use Rattle.cmm_run.specs.Sessions.{machine_of}
use Rattle.cmm_top.proofs.executing.exec.Goals as goal

pub returns-in-Ok-run_image-clause-executes : goal.returns-in-Ok-run_image-clause-executes
returns-in-Ok-run_image-clause-executes g c =
    let ran = c.in-Ok-run_image.ensures.runs in
    let read = c.in-Ok.ensures in
    inl record {
      image = c.in-Ok.prepared.image;
      is_image = ap Some (c.into_image.ensures ∙ ap (λ (l : Launch). l.image) ran.launch);
      agrees = read.agrees;
      script = c.in-Ok.prepared.script;
      has_script = read.script;
      ran = record {
        files = record { files = read.same; file_faults = read.no_fault; last_failed = read.no_failed_call };
        outcome = c.in-Ok-run_image.outcome;
        machine = machine_of c.in-Ok-run_image.session;
        runs = ran.runs;
        ends = record { line = refl; status = refl };
      };
    }
