-- The lemmas that proofs of other crates may cite.
pub use Rattle.cmm_items.proofs.Apart.{apart_end, apart_within, apart_later}
