use Rattle.cmm_select.proofs.accesses.+scatter.Given as goal

-- one access is left to the last
abbrev pub decreases-scatter : goal.decreases-scatter
decreases-scatter l = l.count
