-- What proofs of other crates may cite: alignments of 32 bits, in an expression and in parts of it.
pub use Rattle.cmm_typing.proofs.Aligning.{IsSmall, all_left, all_right, alignment_kept}
