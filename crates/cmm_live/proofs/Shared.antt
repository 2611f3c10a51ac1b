-- What proofs of other crates may cite: what the live sets and the conflicts of a graph say of its locals.
pub use Rattle.cmm_live.proofs.Conflicting.{sets_decide_conflicts}
pub use Rattle.cmm_live.proofs.Gathering.{live_of, sets_are_closed}
