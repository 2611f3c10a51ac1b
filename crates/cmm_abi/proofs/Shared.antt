-- What proofs of other crates may cite.
pub use Rattle.cmm_abi.proofs.Roles.{callee_saves_are_listed, scratch_is_apart}
pub use Rattle.cmm_abi.proofs.Words.{low_word_accessible}
