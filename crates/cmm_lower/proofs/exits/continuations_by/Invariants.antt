use Rattle.std.proofs.Common.{◌≡◌, take}
use Rattle.std.specs.Prelude.{flat_map, map}
use Rattle.cmm_elaboration.specs.Sites.{continuation_of}
use Rattle.cmm_proc_scope.specs.Bodies.{scope_of_body}
use Rattle.cmm_lower.specs.Fitting.{FlowsFit}
use Rattle.cmm_lower.specs.inside.Exits.{names_by}
use Rattle.cmm_lower.proofs.exits.continuations_by.Given as goal

abbrev pub invariant-loop-flow : goal.invariant-loop-flow
invariant-loop-flow g l = FlowsFit (scope_of_body g.N.Names.senses l.names) l.flows →
    l.numbers ≡ map (continuation_of (scope_of_body g.N.Names.senses l.names)) (flat_map (names_by l.exits) (take l.flow-index l.flows))
