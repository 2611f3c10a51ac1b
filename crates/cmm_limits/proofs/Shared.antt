-- What proofs of other crates may cite: sums that are capped.
pub use Rattle.cmm_limits.proofs.Sums.{capped_sum}
