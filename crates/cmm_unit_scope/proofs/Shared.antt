-- The lemmas that proofs of other crates may cite: declarations by their numbers, and the graph of what they name.
pub use Rattle.cmm_unit_scope.proofs.Numbering.{found_numbering, found_below, IsBelow, host_below}
pub use Rattle.cmm_unit_scope.proofs.Meanings.{entry_listed}
pub use Rattle.cmm_unit_scope.proofs.Depended.{mentions_is, graph_size, graph_is}
pub use Rattle.cmm_unit_scope.proofs.Listed.{const_numbers}
pub use Rattle.cmm_unit_scope.specs.inside.Numbered.{numbers_in}
