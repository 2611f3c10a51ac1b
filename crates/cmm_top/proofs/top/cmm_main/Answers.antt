use Rattle.std.proofs.Common.{refl}
use Rattle.cmm_run.specs.Outside.{outside_of}
use Rattle.cmm_work.specs.Standing.{Outside, standing}
use Rattle.cmm_work.specs.Ending.{line_of, status_at}
use Rattle.cmm_top.proofs.Closing.{closes}
use Rattle.cmm_top.proofs.top.cmm_main.Goals as goal

pub returns-clause-answers : goal.returns-clause-answers
returns-clause-answers g c =
    let last : Outside = standing g.F.Files.contents g.F.Files.faults g.F.Files.last_failed c.ended-image.new.files
    (outside_of g.I.Source.left g.I.Source.faults g.O.Sink.taken g.O.Sink.faults g.E.Sink.taken g.E.Sink.faults c.ended-image.new.input c.ended-image.new.out c.ended-image.new.log) in
    record {
      last = last;
      line = line_of c.ended-image.result.0;
      status = status_at c.ended-image.result.0;
      comes = c.ended-image.ensures.comes;
      closes = closes _ last c.ended-image.result.0
          (record { files = refl; file_faults = refl; last_failed = refl; input = refl; input_faults = refl; output = refl; output_faults = refl }) c.close.ensures;
    }
