use Rattle.cmm_fold.proofs.Graphs.{AreFoldedBelow}
use Rattle.cmm_fold.proofs.folding.fold_all.Given as goal

abbrev pub invariant-loop-g : goal.invariant-loop-g
invariant-loop-g l = AreFoldedBelow l.fn.graphs l.g-index l.g-items
