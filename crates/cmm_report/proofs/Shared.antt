-- The lemmas that proofs of other crates may cite.
pub use Rattle.cmm_report.proofs.Writing.{appends_then, appends_then_front, front_longer, writes_fails}
