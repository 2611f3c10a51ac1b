-- What proofs of other crates may cite: bounds on words and alignments, where data ends, one unit after another, and the faults of entries.
pub use Rattle.cmm_check_declarations.proofs.Ends.{aligned_by, bytes_bounds, end_append, data_append, data_grows, units_next, units_grow}
pub use Rattle.cmm_check_declarations.proofs.EntryCycles.{value_or_cycle}
