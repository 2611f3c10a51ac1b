-- The lemmas that proofs of other crates may cite.
pub use Rattle.cmm_format.proofs.FieldLaws.{IsExact, bind_ok, ok_is, passed, not_cut, chosen_true, chosen_false, AreBytes-tail, length-number_bytes, number-exact, block-exact, text-exact, when-exact, optional-exact}
pub use Rattle.cmm_format.proofs.TableLaws.{then-exact, as-exact, seen-exact, given-exact, choose-exact, rows-exact, behind-exact, counted-exact}
pub use Rattle.cmm_format.proofs.WholeLaws.{whole-taken, whole-again, unbroken, first-is, long-breaks}
pub use Rattle.cmm_format.proofs.ReadingRows.{with_front, last_of, last_of-push, goes_on, ends, is_done}
