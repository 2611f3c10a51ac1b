-- The lemmas that proofs of other crates may cite.
pub use Rattle.rv_sim.proofs.States.{found_stands, step_missing}
