-- The lemmas that proofs of other crates may cite.
pub use Rattle.rv_table.proofs.Decodes.{instr_of-is, instr_of-none}
pub use Rattle.rv_table.proofs.EffectFacts.{done-ask, done-load, done-store, effects_are_done, goes_to-aligned}
pub use Rattle.rv_table.proofs.Encodes.{instr_of-word_of, word_of-lt}
pub use Rattle.rv_table.proofs.Immediates.{modulo-lt}
pub use Rattle.rv_table.proofs.MemoryFacts.{loaded-above, loaded-below, loaded-lt, loaded-same, loaded-within, stored-inside, stored-outside}
pub use Rattle.rv_table.proofs.RegisterFacts.{with_register-0, with_register-fits, with_register-other, with_register-same, with_register-zero}
pub use Rattle.rv_table.proofs.RowBounds.{row_has_a_size, row_values_fit, row_writes_a_register}
pub use Rattle.rv_table.proofs.Running.{instruction_step-set, instruction_step-standing, steps-add, straight_runs, then_runs}
pub use Rattle.rv_table.proofs.Soundness.{sound_start, sound_steps}
pub use Rattle.rv_table.proofs.Standing.{fetched-append, length-code_of, stands_behind}
pub use Rattle.rv_table.proofs.Stops.{steps_none_if_asks, steps_none_if_traps}
