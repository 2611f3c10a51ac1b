use Rattle.std.proofs.Common.{◌≡◌, take}
use Rattle.std.specs.Prelude.{flat_map}
use Rattle.cmm_static_semantics.specs.Spots.{first_of}
use Rattle.cmm_static_semantics.specs.Calls.{exit_spots, flow_names}
use Rattle.cmm_proc_scope.specs.Bodies.{scope_of_body}
use Rattle.cmm_check_procedure.proofs.flows.note_flows.Given as goal

abbrev pub invariant-loop-flow : goal.invariant-loop-flow
invariant-loop-flow g l = l.best ≡ first_of l.initial.best (flat_map (λ f. flat_map (exit_spots (scope_of_body g.N.Names.senses l.names)) (flow_names f)) (take l.flow-index l.flows))
