-- What proofs of other crates may cite: that a graph is hoisted from itself, and a small graph before and after its constants are hoisted.
pub use Rattle.cmm_hoist.proofs.Hoisted.{left_within}
pub use Rattle.cmm_hoist.proofs.HoistRows.{plain, hoisted, is_hoisted, is_hoisted_within}
