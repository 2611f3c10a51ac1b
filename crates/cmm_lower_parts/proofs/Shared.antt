-- What proofs of other crates may cite: what of accepted units fits a program.
pub use Rattle.cmm_lower_parts.proofs.Accepted.{alignments_are_small, each_good, expression_fits, parameters_are_variables}
pub use Rattle.cmm_lower_parts.proofs.Holding.{held_same, unchanged}
pub use Rattle.cmm_lower_parts.proofs.Sizes.{programs_fit, stack_fits}
