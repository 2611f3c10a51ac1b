use Rattle.cmm_select.proofs.number.+load_rounded.Given as goal

-- what is left for the higher bits is smaller
abbrev pub decreases-load_rounded : goal.decreases-load_rounded
decreases-load_rounded l = l.number
