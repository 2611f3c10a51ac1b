use Rattle.std.proofs.Common.{◌≡◌, length, take}
use Rattle.std.specs.Prelude.{sum_by}
use Rattle.cmm_top.proofs.generating.count_sites.Given as goal

-- the sites of the procedures so far were counted
abbrev pub invariant-loop-procedure : goal.invariant-loop-procedure
invariant-loop-procedure l = (l.count ≡ sum_by (λ q. length q.sites) (take l.procedure-index l.procedure-items)) × (l.procedure-items ≡ l.program.procs)
