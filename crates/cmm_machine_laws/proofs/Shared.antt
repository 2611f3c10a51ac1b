-- What proofs of other crates may cite: laws for machines with any control, the ways in which they are proved, and laws of memory.
pub use Rattle.cmm_machine_laws.proofs.Kept.{KeptBy, KeptIn, keeping, kept_after, kept_and_then, kept_err, kept_given, kept_if, kept_in, kept_ok, kept_provided, kept_some, kept_with_some}
pub use Rattle.cmm_machine_laws.proofs.Arriving.{entering_lands, returning_lands, resuming_lands, targets_take}
pub use Rattle.cmm_machine_laws.proofs.Transfers.{given_cases, provided_cases, call_enters, jump_enters, return_leaves, cut_cuts, search_finds, search_finds_first}
pub use Rattle.cmm_machine_laws.proofs.Steps.{ended_stays, wrong_stays, landed_has, lands, step_has, start_keeps, kept_by_steps}
pub use Rattle.cmm_machine_laws.proofs.Growing.{step_leads, step_grows, step_shows, step_takes, steps_grow, input_kept}
pub use Rattle.cmm_machine_laws.proofs.StackKept.{After, Leads, land_after, nothing_after, stackdata_drop, without_keeps}
pub use Rattle.cmm_machine_laws.proofs.Stacking.{length_stackdata, steps_stack}
pub use Rattle.cmm_machine_laws.proofs.Addresses.{row_at, pairs_inside, older_are_stack, frames_reach_top, frames_adjoin, frames_aligned, parts_in_frame, parts_apart, parts_in_stack, none_below, own_alone}
pub use Rattle.cmm_machine_laws.proofs.Doing.{Asks, IsExitOf, OfReturn, OfUnwind, OfCut, answered_kept}
pub use Rattle.cmm_machine_laws.proofs.Lasting.{machine_lasts, starts_right}
pub use Rattle.cmm_machine_laws.proofs.Cells.{read_after_write, outside_stays, younger_first, lack_each, comes_unwritten, written_then_gone}
pub use Rattle.cmm_machine_laws.proofs.StoredWords.{bytes_of_number, number_of_bytes, bytes_of_spelled, access_stays, stored_is_loaded, words_elsewhere_stay}
pub use Rattle.cmm_machine_laws.proofs.Alike.{answers_are_alike}
