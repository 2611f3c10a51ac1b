use Rattle.std.proofs.Common.{◌≡◌, ℕ, List, Some, ap, inl, inr, refl, subst, ◌∙◌}
use Rattle.cmm_image_machine.specs.Machine.{launch_of, Launch}
use Rattle.cmm_run.specs.Outside.{outside_of}
use Rattle.cmm_run.specs.Runs.{Runs}
use Rattle.cmm_run.specs.Sessions.{machine_of}
use Rattle.cmm_script.specs.declared.script.Block.{Block}
use Rattle.cmm_work.specs.Standing.{Outside}
use Rattle.cmm_top.specs.Generating.{usual_limits}
use Rattle.cmm_work.specs.Work.{no_script}
use Rattle.cmm_top.proofs.Counting.{sites_are_few}
use Rattle.cmm_work.proofs.Shared.{ran_out}
use Rattle.cmm_top.proofs.generating.generate.Goals as goal

pub returns-in-Err : goal.returns-in-Err
returns-in-Err g c = λ files faults failed. inr (inr (c.in-Err.ensures.err record {
  files = files;
  file_faults = faults;
  last_failed = failed;
  streams = outside_of g.I.Source.left g.I.Source.faults g.O.Sink.taken g.O.Sink.faults g.E.Sink.taken g.E.Sink.faults c.args.input.now c.args.out.now c.args.log.now;
}))

pub returns-in-Err-load : goal.returns-in-Err-load
returns-in-Err-load g c = λ files faults failed.
    let here : Outside = record {
      files = files;
      file_faults = faults;
      last_failed = failed;
      streams = outside_of g.I.Source.left g.I.Source.faults g.O.Sink.taken g.O.Sink.faults g.E.Sink.taken g.E.Sink.faults c.args.input.now c.args.out.now c.args.log.now;
    } in
    inr (inr (inr (ran_out here here refl)))

pub put_counts-requires : goal.put_counts-requires
put_counts-requires g c = sites_are_few c.in-Ok.compiled.program c.in-Ok.ensures.range

pub returns-in_default : goal.returns-in_default
returns-in_default g c = λ files faults failed.
    inr (inl record {
      program = c.in-Ok.compiled.program;
      image = c.in-Ok.compiled.image;
      loaded = record { means = c.in-Ok.ensures.means; agrees = c.in-Ok.ensures.agrees; is_image = ap Some (c.into_image.ensures ∙ ap (λ (l : Launch). l.image) c.in-Ok-load.ensures.launch) };
      same = record { files = refl; file_faults = refl; last_failed = refl; input = refl; input_faults = refl; output = refl; output_faults = refl };
      counts = c.in_default.ensures.err;
      rose = c.in_default.ensures.fault;
      ends = record { line = refl; status = refl };
    })

pub returns : goal.returns
returns g c = λ files faults failed.
    let streams = outside_of g.I.Source.left g.I.Source.faults g.O.Sink.taken g.O.Sink.faults g.E.Sink.taken g.E.Sink.faults in
    let start = streams c.args.input.now c.args.out.now c.put_counts.new.log in
    let last = streams c.run-outcome.new.input c.run-outcome.new.out c.run-outcome.new.log in
    let ended = c.run-outcome.result in
    let image = c.in-Ok.compiled.image in
    let machine = machine_of c.run-outcome.new.self in
    let launch : c.in-Ok-load.session.launch ≡ launch_of image no_script usual_limits.stack =
    c.in-Ok-load.ensures.launch ∙ ap (λ (blocks : List Block). launch_of image (record { blocks = blocks }) usual_limits.stack) c.empty.ensures in
    inl record {
      program = c.in-Ok.compiled.program;
      image = image;
      loaded = record {
        means = c.in-Ok.ensures.means;
        agrees = c.in-Ok.ensures.agrees;
        is_image = ap Some (c.into_image-2.ensures ∙ ap (λ (l : Launch). l.image) (c.run-outcome.ensures.launch ∙ c.in-Ok-load.ensures.launch));
      };
      told = start.log;
      counts = c.in-Ok-put_counts.ensures.ok;
      ran = record {
        files = record { files = refl; file_faults = refl; last_failed = refl };
        outcome = ended;
        machine = machine;
        runs = subst (λ (n : ℕ). Runs (launch_of image no_script usual_limits.stack) usual_limits.steps (record start { log_faults = n }) last ended machine) c.in-Ok-put_counts.ensures.no_fault
            (subst (λ (l : Launch). Runs l usual_limits.steps start last ended machine) launch
            (subst (λ (n : ℕ). Runs c.in-Ok-load.session.launch n start last ended machine) c.in-Ok-load.ensures.steps (c.run-outcome.ensures.first c.in-Ok-load.ensures.fresh)));
        ends = record { line = refl; status = refl };
      };
    }
