use Rattle.std.proofs.Common.{drop, map}
use Rattle.cmm_proc_scope.specs.Bodies.{scope_of_body}
use Rattle.cmm_lower_parts.proofs.Behind.{AreBehind}
use Rattle.cmm_lower_parts.proofs.stackdata.from_behind.Given as goal

-- the rooms from this one on are there, the last first
abbrev pub invariant-loop-index : goal.invariant-loop-index
invariant-loop-index g l = AreBehind (scope_of_body g.N.Names.senses l.names) l.items.items l.behind (map (λ r. r.now) (drop l.index l.rooms))
