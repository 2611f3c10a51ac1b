-- The lemmas that proofs of other crates may cite.
pub use Rattle.cmm_select.proofs.Places.{One, not_same, other_kept, same_set, set_as}
pub use Rattle.cmm_select.proofs.Reached.{no_scratch}
pub use Rattle.cmm_select.proofs.Sums.{loaded_whole, plus_none}
