-- The lemmas that proofs of other crates may cite.
pub use Rattle.cmm_effects.proofs.Places.{keeps_same, keeps_then, kept_is_reachable, kept_is_read, put_is_read, set_keeps}
pub use Rattle.cmm_effects.proofs.Ending.{by_last}
pub use Rattle.cmm_effects.proofs.Following.{adds_none, adds_one, adds_part, adds_then, adds_weaker, leads_load, leads_set, leads_store, leads_then, leads_weaker, reaches_more, reaches_sound, runs_none, runs_of, runs_then, runs_weaker}
pub use Rattle.cmm_effects.proofs.Labels.{goes_keeps, leads_address, leads_sound, quiet_if_runs, turns_jump}
pub use Rattle.cmm_effects.proofs.Going.{goes_choice, goes_none, goes_weaker, leads_turns, turns_weaker}
pub use Rattle.cmm_effects.proofs.Requesting.{breaks, gets_byte, puts_byte, requests_then, sound_behind, sound_taken}
pub use Rattle.cmm_effects.proofs.Storing.{leads_store_alone}
