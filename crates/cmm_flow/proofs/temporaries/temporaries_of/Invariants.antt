use Rattle.std.proofs.Common.{take}
use Rattle.cmm_flow.specs.inside.Temporaries.{IsLeast, names_below}
use Rattle.cmm_flow.proofs.temporaries.temporaries_of.Given as goal

abbrev pub invariant-loop-node : goal.invariant-loop-node
invariant-loop-node l = IsLeast names_below (take l.node-index l.nodes) l.count
