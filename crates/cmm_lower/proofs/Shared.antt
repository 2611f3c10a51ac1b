-- The lemmas that proofs of other crates may cite: that accepted units and their procedures fit a program.
pub use Rattle.cmm_lower.proofs.Kept.{procedure_fits}
pub use Rattle.cmm_lower.proofs.AcceptedProcedures.{units_fit}
