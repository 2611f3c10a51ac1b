-- What proofs of other crates may cite.
pub use Rattle.cmm_client.proofs.YieldLaws.{yields_are_answers}
