-- What proofs of other crates may cite: that a hoisted flow begins at its Entry, and that operands of a node in range are in range, with the locals that they read.
pub use Rattle.cmm_hoisted.proofs.Flows.{hoisted_flows_have_entries}
pub use Rattle.cmm_hoisted.proofs.Operands.{kind_operands, locals_read}
