use Rattle.std.proofs.Common.{◌≡◌, ◌≤◌, ◌-◌}
use Rattle.cmm_client.specs.Stops.{map_of as program_map_of, region_of as program_region_of}
use Rattle.cmm_image_machine.specs.Machine.{map_of, region_of}
use Rattle.cmm_run.specs.Outside.{outside_of}
use Rattle.cmm_run.proofs.WholeRuns.{HasRun}
use Rattle.cmm_run.proofs.running.run.Given as goal

abbrev pub invariant-loop-done : goal.invariant-loop-done
invariant-loop-done g l = record {
  map : program_map_of l.machine.program ≡ map_of l.loaded;
  region : program_region_of l.machine.program ≡ region_of l.loaded;
  within : l.done ≤ l.steps;
  run : HasRun l.loaded
      (outside_of g.I.Source.left g.I.Source.faults g.O.Sink.taken g.O.Sink.faults g.E.Sink.taken g.E.Sink.faults l.initial.input l.initial.out l.initial.log)
      (outside_of g.I.Source.left g.I.Source.faults g.O.Sink.taken g.O.Sink.faults g.E.Sink.taken g.E.Sink.faults l.input l.out l.log)
      l.machine l.done;
}

abbrev pub decreases-loop-done : goal.decreases-loop-done
decreases-loop-done g l = l.steps - l.done
