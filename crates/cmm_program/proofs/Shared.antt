-- What proofs of other crates may cite: constructors of sample programs, what the operations of a control keep, elements of
-- lists, places that are laid out one after another, what a client finds in a store, and tests that a program is in range, and tests joined in another order.
unfoldable pub use Rattle.cmm_program.proofs.Samples.{opened}
pub use Rattle.cmm_program.proofs.Samples.{num, local, code, address, op, added, test, is, variables_of, assign_all, assign, from_to, arm, variable, plain, stack_label, stack_bytes, continuation, call_site, yield_site, procedure, datum, data_label, global, program, frame, frame_with, placed, Sample, sample, alone, setting, no_client, other, at, client, Seen, seen, silent, logs}
pub use Rattle.cmm_program.proofs.Places.{aligned_up-grows, end_of-grows}
pub use Rattle.cmm_program.proofs.Keeping.{IsKept, on_landing, in_runs}
pub use Rattle.cmm_program.proofs.Lists.{list_all_get, all_get}
pub use Rattle.cmm_program.proofs.AskedStores.{some_by, StandsAt, stands_at, located_same, IsFound, found_at, set_found, all_found, youngest_is, variable_shown, shown_of, walk_is_listed}
pub use Rattle.cmm_program.proofs.Tests.{or_left_comm, and_left_comm}
pub use Rattle.cmm_program.proofs.RangeTests.{is_procedure_in_range, procedure_in_range, is_program_in_range, program_in_range}
