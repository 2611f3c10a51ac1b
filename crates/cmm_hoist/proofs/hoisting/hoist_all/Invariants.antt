use Rattle.std.proofs.Common.{◌≡◌, ◌++◌}
use Rattle.std.specs.List.{AllZip}
use Rattle.cmm_program.specs.Bounds.{longest}
use Rattle.cmm_hoist.specs.Graphs.{IsHoistedWithin}
use Rattle.cmm_hoist.proofs.hoisting.hoist_all.Given as goal

-- the graphs so far are hoisted
abbrev pub invariant-loop-g : goal.invariant-loop-g
invariant-loop-g l = record {
  rest : l.yielded ++ l.g-iterator.rest.items ≡ l.fn.graphs;
  hoisted : AllZip (IsHoistedWithin l.most (longest l.program.procs)) l.yielded l.made;
}
