-- The lemmas that proofs of other crates may cite.
pub use Rattle.cmm_lexer.proofs.Numbering.{keyword_number-injective, symbol_number-injective}
pub use Rattle.cmm_lexer.proofs.OfBytes.{tokens_are_of_bytes}
