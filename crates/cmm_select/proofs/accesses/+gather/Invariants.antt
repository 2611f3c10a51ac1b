use Rattle.cmm_select.proofs.accesses.+gather.Given as goal

-- one access is left to the last
abbrev pub decreases-gather : goal.decreases-gather
decreases-gather l = l.count
