-- What proofs of other crates may cite: that a graph stands for itself, and a small graph before and after it is folded.
pub use Rattle.cmm_fold.proofs.Graphs.{graph_itself}
pub use Rattle.cmm_fold.proofs.FoldRows.{plain, folded, stands}
