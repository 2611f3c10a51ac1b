use Rattle.std.proofs.Common.{◌≡◌, drop}
use Rattle.std.specs.List.{list_all}
use Rattle.cmm_program.specs.Placed.{is_pair_in}
use Rattle.cmm_program.proofs.placement.pairs_lie_inside.Given as goal

-- the answer depends on what is left alone
abbrev pub invariant-loop-offset : goal.invariant-loop-offset
invariant-loop-offset l = list_all (is_pair_in l.frame) l.pairs ≡ list_all (is_pair_in l.frame) (drop l.offset-index l.pairs)
