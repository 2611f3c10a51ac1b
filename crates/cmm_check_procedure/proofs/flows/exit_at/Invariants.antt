use Rattle.std.proofs.Common.{◌≡◌, length}
use Rattle.std.specs.Prelude.{flat_map, slice_get}
use Rattle.cmm_static_semantics.specs.Calls.{return_names}
use Rattle.cmm_check_procedure.proofs.flows.exit_at.Given as goal

abbrev pub invariant-loop-left : goal.invariant-loop-left
invariant-loop-left l = slice_get (flat_map return_names l.left) l.before ≡ slice_get (flat_map return_names l.fn.flows) l.fn.index

abbrev pub decreases-loop-left : goal.decreases-loop-left
decreases-loop-left l = length l.left
