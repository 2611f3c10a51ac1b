-- The lemmas that proofs of other crates may cite.
pub use Rattle.cmm_check_procedure.proofs.Heads.{heads_are}
