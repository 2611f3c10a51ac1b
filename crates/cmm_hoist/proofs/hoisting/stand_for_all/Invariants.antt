use Rattle.std.proofs.Common.{◌≡◌, length}
use Rattle.cmm_hoist.specs.Keeping.{NodeStandsFor}
use Rattle.cmm_hoist.proofs.Walk.{IsWalked}
use Rattle.cmm_hoist.proofs.hoisting.stand_for_all.Given as goal

abbrev pub invariant-loop-index : goal.invariant-loop-index
invariant-loop-index l = record { count : length l.nodes ≡ l.index-end; walked : IsWalked (NodeStandsFor l.first l.kept) l.fn.nodes l.index l.nodes }
