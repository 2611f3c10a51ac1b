use Rattle.std.proofs.Common.{◌≡◌, take}
use Rattle.std.specs.Prelude.{flat_map}
use Rattle.cmm_static_semantics.specs.Spots.{first_of}
use Rattle.cmm_static_semantics.specs.Statements.{lvalue_spots}
use Rattle.cmm_proc_scope.specs.Bodies.{scope_of_body}
use Rattle.cmm_check_procedure.proofs.assignment.note_lvalues.Given as goal

abbrev pub invariant-loop-place : goal.invariant-loop-place
invariant-loop-place g l = l.best ≡ first_of l.fn.best (flat_map (lvalue_spots (scope_of_body g.N.Names.senses l.names)) (take l.place-index l.to))
