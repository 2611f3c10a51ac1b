-- The lemmas that proofs of other crates may cite: writing pieces, and reading files one after another.
pub use Rattle.cmm_outside.proofs.InOrder.{made_none, made_then, one_in_order, one_whole, others_behind, whole_in_order, whole_then, whole_then_in_order}
pub use Rattle.cmm_outside.proofs.Going.{made_so}
pub use Rattle.cmm_outside.proofs.Pieces.{HasWritten, fails_at_piece}
