use Rattle.std.proofs.Common.{◌≡◌, ℕ, ◌<◌, slice_index}
use Rattle.cmm_abi.specs.Regions.{word_at}
use Rattle.cmm_walk.specs.Activations.{places_of, register_in}
use Rattle.rv_memory.specs.States.{state_of}
use Rattle.cmm_resume.proofs.unwinding.had_by.Given as goal

abbrev pub invariant-loop-k : goal.invariant-loop-k
invariant-loop-k l = (j : ℕ) → j < l.k → slice_index l.word-items j ≡ word_at (state_of l.r l.m) (places_of l.a.saved (register_in j))
