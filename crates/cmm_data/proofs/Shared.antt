-- What proofs of other crates may cite: that the programs of tests can be laid out.
pub use Rattle.cmm_data.proofs.Rows.{mixed_made, tagged_made}
