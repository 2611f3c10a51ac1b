-- What proofs of other crates may cite: that one node waits at a site.
pub use Rattle.cmm_flow.proofs.LivenessSets.{same_node}
