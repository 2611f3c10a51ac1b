-- What proofs of other crates may cite: that what is rewritten is a lazy simulation and follows, that machines with the same store are level, and what a chain costs at most.
pub use Rattle.cmm_rewriting.proofs.Following.{follows_rewritten, rewritten_follows}
pub use Rattle.cmm_rewriting.proofs.Levels.{level_by_store}
pub use Rattle.cmm_rewriting.proofs.Simulating.{rewritten_simulates}
pub use Rattle.cmm_rewriting.proofs.Stepping.{entry_few}
