-- What proofs of other crates may cite: first declarations and their numbers, names that are too long, what is declared and counted among what stands in a
-- unit, and orders by which the first of faults doesn't depend on how they are listed.
pub use Rattle.cmm_symbols.proofs.Found.{found_push, found_with, again_append, again_with}
pub use Rattle.cmm_symbols.proofs.Positions.{numbering_last, numbering_shown, numbering_with, position_of, no_position, number_there}
pub use Rattle.cmm_symbols.proofs.Lengths.{long_is}
pub use Rattle.cmm_symbols.proofs.Owned.{entry_found, again_shown}
pub use Rattle.cmm_symbols.proofs.Numbered.{entries_are, sum_is}
pub use Rattle.cmm_symbols.proofs.Ordering.{IsOrder, IsOrderOf, order_of, order_by, order_by_number_then, spot_order, first_apart, first_joined, first_swapped, first_of_each, middle_swapped}
