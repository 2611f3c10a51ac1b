-- What proofs of other crates may cite: who is joined, and when two tests are the same.
pub use Rattle.cmm_colour.proofs.Joining.{joins_are_adjacent, same_test, size_joined}
