use Rattle.std.proofs.Common.{◌≡◌, map, take}
use Rattle.std.specs.Prelude.{flat_map}
use Rattle.cmm_symbols.specs.Shown.{thing_item}
use Rattle.cmm_proc_scope.specs.Procs.{item_procs}
use Rattle.cmm_proc_scope.proofs.flat_unit.procs_of.Given as goal

abbrev pub invariant-loop-thing : goal.invariant-loop-thing
invariant-loop-thing l = l.procs ≡ flat_map item_procs (map thing_item (take l.thing-index l.things))
