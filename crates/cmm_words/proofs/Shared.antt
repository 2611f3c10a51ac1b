-- The lemmas that proofs of other crates may cite.
pub use Rattle.cmm_words.proofs.Carried.{base-positive, carried, carried-cons, carried-drop, carried-≥, digit-at}
pub use Rattle.cmm_words.proofs.WidthLemmas.{positive_bits, bits_within, word_64}
pub use Rattle.cmm_words.proofs.WordLaws.{value2-word}
pub use Rattle.cmm_words.proofs.Wrapping.{wrapped-below}
