use Rattle.std.proofs.Common.{length, take}
use Rattle.cmm_live.specs.inside.Interfering.{HaveSites}
use Rattle.cmm_live.proofs.conflict_graph.add_sites.Given as goal

abbrev pub invariant-loop-set : goal.invariant-loop-set
invariant-loop-set l = HaveSites (length l.fn.rows.items) (take l.set-index l.sites) l.fn.rows.items l.rows.items
