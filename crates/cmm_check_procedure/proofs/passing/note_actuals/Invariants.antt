use Rattle.std.proofs.Common.{◌≡◌, take}
use Rattle.std.specs.Prelude.{flat_map, None}
use Rattle.cmm_static_semantics.specs.Spots.{first_of}
use Rattle.cmm_static_semantics.specs.Expressions.{bits_spots}
use Rattle.cmm_static_semantics.specs.Scopes.{senses}
use Rattle.cmm_proc_scope.specs.Bodies.{scope_of_body}
use Rattle.cmm_check_procedure.proofs.passing.note_actuals.Given as goal

abbrev pub invariant-loop-actual : goal.invariant-loop-actual
invariant-loop-actual g l = l.best ≡ first_of l.initial.best (flat_map (λ a. bits_spots (senses (scope_of_body g.N.Names.senses l.names)) None a.value) (take l.actual-index l.actuals))
