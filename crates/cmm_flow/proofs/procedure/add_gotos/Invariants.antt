use Rattle.std.proofs.Common.{◌≡◌, ◌++◌, take}
use Rattle.cmm_flow.specs.inside.Fronts.{goto_nodes}
use Rattle.cmm_flow.proofs.procedure.add_gotos.Given as goal

abbrev pub invariant-loop-next : goal.invariant-loop-next
invariant-loop-next l = l.nodes ≡ l.initial.nodes ++ goto_nodes (take l.next-index l.to)
