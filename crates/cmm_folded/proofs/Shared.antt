-- What proofs of other crates may cite: that a folded flow begins at its Entry, that where a node leads is by the landings of its graph alone, and that sites are too.
pub use Rattle.cmm_folded.proofs.Flows.{folded_flows_have_entries}
pub use Rattle.cmm_folded.proofs.Liveness.{cut_nodes_same, successors_same}
pub use Rattle.cmm_folded.proofs.Ranges.{site_of_same}
