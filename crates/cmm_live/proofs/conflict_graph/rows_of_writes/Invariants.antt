use Rattle.std.proofs.Common.{take}
use Rattle.cmm_live.specs.Locals.{local_count}
use Rattle.cmm_live.specs.inside.Interfering.{HaveWrites}
use Rattle.cmm_live.proofs.conflict_graph.rows_of_writes.Given as goal

abbrev pub invariant-loop-node : goal.invariant-loop-node
invariant-loop-node l = HaveWrites l.g (local_count l.g) l.before (take l.node-index l.g.nodes) l.rows.items
