use Rattle.std.proofs.Common.{◌≡◌, take}
use Rattle.std.specs.Prelude.{flat_map}
use Rattle.cmm_static_semantics.specs.Spots.{first_of}
use Rattle.cmm_proc_scope.specs.Bodies.{scope_of_body}
use Rattle.cmm_check_procedure.specs.inside.Formals.{formal_spots}
use Rattle.cmm_check_procedure.proofs.declaring.note_types.Given as goal

abbrev pub invariant-loop-formal : goal.invariant-loop-formal
invariant-loop-formal g l = l.best ≡ first_of l.fn.best (flat_map (formal_spots (scope_of_body g.N.Names.senses l.names)) (take l.formal-index l.formals))
