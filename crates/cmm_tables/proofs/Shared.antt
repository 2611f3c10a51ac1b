-- What proofs of other crates may cite.
pub use Rattle.cmm_tables.proofs.Listed.{enumerated_more, mapped_alike}
