-- The lemmas that proofs of other crates may cite: the procedures of what stands in a unit, as a walk over its tree meets them.
pub use Rattle.cmm_proc_scope.proofs.Procs.{procs_append, procs_of_whats, over_procs_of, procs_of_span, begin_first, begin_rest, begin_all, begin_as, begin_turn, left_turn, next_of_one, left_of_one}
