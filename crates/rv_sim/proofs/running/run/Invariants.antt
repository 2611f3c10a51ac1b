use Rattle.std.proofs.Common.{◌≡◌, Some, slice_index}
use Rattle.rv_memory.specs.Regions.{map_of, region_of}
use Rattle.rv_sim.specs.Stepping.{state_of}
use Rattle.rv_table.specs.Machine.{steps}
use Rattle.rv_sim.proofs.running.run.Given as goal

abbrev pub invariant-loop-done : goal.invariant-loop-done
invariant-loop-done l = record {
  runs : steps (map_of l.initial.m) l.done (state_of l.initial.r l.initial.m) ≡ Some (state_of l.r l.m);
  map : map_of l.m ≡ map_of l.initial.m;
  region : region_of l.m ≡ region_of l.initial.m;
  zero : slice_index l.r.x 0 ≡ slice_index l.initial.r.x 0;
}
