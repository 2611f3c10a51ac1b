-- The lemmas that proofs of other crates may cite.
pub use Rattle.cmm_emit_laws.proofs.Accessing.{loaded_is_spelled, there_is_accessible, there_is_placed}
pub use Rattle.cmm_emit_laws.proofs.Carrying.{forget_values, given_shows, puts_show}
pub use Rattle.cmm_emit_laws.proofs.Leaving.{called_shows, cut_shows, left_shows, moved_shows}
pub use Rattle.cmm_emit_laws.proofs.Making.{made_shows}
pub use Rattle.cmm_emit_laws.proofs.Reading.{held_is_read, place_is_reachable, register_is_read, register_shows, sits_accessible}
pub use Rattle.cmm_emit_laws.proofs.Resiting.{outside_shows, resited_shows}
pub use Rattle.cmm_emit_laws.proofs.Showing.{holdings_same, no_values, put_shows, registers_same, store_shows, values_same}
pub use Rattle.cmm_emit_laws.proofs.StartingStates.{starts_are_shown}
pub use Rattle.cmm_emit_laws.proofs.WrittenWords.{below_stays, cells_stay, in_none, not_in, same_word, shown_same, word_written}
pub use Rattle.cmm_emit_laws.proofs.SimulatedMachines.{image_is_level, image_is_quiet, image_leads, image_simulates}
pub use Rattle.cmm_emit_laws.proofs.Placing.{appended_does, finished_code_stands, placed_alone}
pub use Rattle.cmm_emit_laws.proofs.FirstStep.{first_asks, first_shows, nothing}
pub use Rattle.cmm_emit_laws.proofs.Beginning.{nothing_within, shown_at_start}
pub use Rattle.cmm_emit_laws.proofs.CalledOnce.{placed_at}
pub use Rattle.cmm_emit_laws.proofs.DataWritten.{data_is_written}
pub use Rattle.cmm_emit_laws.proofs.Doing.{kept_shown}
pub use Rattle.cmm_emit_laws.proofs.Framed.{framed_inside}
pub use Rattle.cmm_emit_laws.proofs.Going.{place_is}
pub use Rattle.cmm_emit_laws.proofs.GoingBack.{there_too}
pub use Rattle.cmm_emit_laws.proofs.Landing.{inside_copy, landing_holds, normal_holds}
pub use Rattle.cmm_emit_laws.proofs.LaidFrames.{procedures_are_laid}
pub use Rattle.cmm_emit_laws.proofs.Nodes.{code_is_quiet, found_in, node_holds, quiet_asks, running_asks}
pub use Rattle.cmm_emit_laws.proofs.Operands.{operand_is}
pub use Rattle.cmm_emit_laws.proofs.Regions.{bottom_is, top_is}
pub use Rattle.cmm_emit_laws.proofs.Rest.{rest_stays}
pub use Rattle.cmm_emit_laws.proofs.ReturnedSeven.{at_label}
pub use Rattle.cmm_emit_laws.proofs.Simulating.{code_does, keeps, step_is}
