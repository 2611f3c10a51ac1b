-- What proofs of other crates may cite: the laws of units, and what a block takes in terms of its parts.
pub use Rattle.cmm_grammar.proofs.MeetsUnits.{is_too_deep}
pub use Rattle.cmm_grammar.proofs.StatementForms.{block_is}
pub use Rattle.cmm_grammar.proofs.Takings.{many_to}
pub use Rattle.cmm_grammar.proofs.UnitLaws.{is_unexpected, one_answer, one_unit, read_is_unit}
