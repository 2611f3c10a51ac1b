-- The lemmas that proofs of other crates may cite.
pub use Rattle.cmm_digraph.proofs.Evaluating.{IsLocal, AreSteps, final_in_order, left_as_begun, AreSet, set_next, set_all, any_at}
pub use Rattle.cmm_digraph.proofs.Counting.{all_at, all_from, any_from, among_first, among_later, among_is, among_of, among-last, among_start, occurrences-append, below_index, below_wider}
