use Rattle.std.proofs.Common.{◌≡◌, length}
use Rattle.cmm_static_semantics.specs.Spots.{first_of}
use Rattle.cmm_static_semantics.specs.Statements.{sides}
use Rattle.cmm_proc_scope.specs.Bodies.{scope_of_body}
use Rattle.cmm_check_procedure.proofs.assignment.note_sides.Given as goal

abbrev pub invariant-loop-left : goal.invariant-loop-left
invariant-loop-left g l =
    first_of l.best (sides (scope_of_body g.N.Names.senses l.names) l.places l.left)
    ≡ first_of l.fn.best (sides (scope_of_body g.N.Names.senses l.names) l.fn.to l.fn.values)

abbrev pub decreases-loop-left : goal.decreases-loop-left
decreases-loop-left g l = length l.left
