-- What proofs of other crates may cite: the laws of chains, one by one, and what registers of locals are.
pub use Rattle.cmm_chain.proofs.Lasting.{chain_outlives, live_alone, frames_reach_top}
pub use Rattle.cmm_chain.proofs.Holding.{put_is_held, others_stay, put_keeps_frame, write_keeps_values}
pub use Rattle.cmm_chain.proofs.Entering.{entered_is_framed}
pub use Rattle.cmm_chain.proofs.Leaving.{call_suspends, left_is_chain, goes_on_framed, goes_on_with_values}
pub use Rattle.cmm_chain.proofs.Walking.{walk_lists_chain, unwound_is_chain}
pub use Rattle.cmm_chain.proofs.Setting.{set_is_chain}
pub use Rattle.cmm_chain.proofs.Registers.{callee_saves_is_written, callee_saves_is_kept, callee_saves_is_apart, callee_saves_is_listed}
pub use Rattle.cmm_chain.proofs.Registers.{temporary_is_written, temporary_is_kept, temporary_is_not_saved, saved_is_callee_saves}
