use Rattle.std.proofs.Common.{◌≡◌, take}
use Rattle.rv_memory.specs.Regions.{map_of, region_of}
use Rattle.rv_memory.specs.States.{state_of}
use Rattle.cmm_abi.specs.Regions.{with_values}
use Rattle.cmm_resume.proofs.values.put_values.Given as goal

abbrev pub invariant-loop-k : goal.invariant-loop-k
invariant-loop-k l = record {
  state : state_of l.r l.m ≡ with_values (region_of l.initial.m) (take l.k l.values) (state_of l.initial.r l.initial.m);
  map : map_of l.m ≡ map_of l.initial.m;
  region : region_of l.m ≡ region_of l.initial.m;
}
