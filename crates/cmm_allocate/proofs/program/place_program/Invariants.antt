use Rattle.std.proofs.Common.{◌≡◌, ◌++◌, length, take}
use Rattle.std.specs.List.{AllZip, zip}
use Rattle.cmm_allocate.proofs.Together.{Placed}
use Rattle.cmm_allocate.proofs.program.place_program.Given as goal

-- the procedures so far have their places
abbrev pub invariant-loop-sets : goal.invariant-loop-sets
invariant-loop-sets l = record {
  count : length l.found ≡ length l.yielded;
  rest : l.yielded ++ l.sets-iterator.rest.items ≡ l.fn.live;
  places : AllZip Placed (take (length l.yielded) (zip l.procs l.graphs)) l.found;
}
