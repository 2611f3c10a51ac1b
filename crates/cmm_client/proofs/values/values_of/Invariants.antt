use Rattle.std.proofs.Common.{◌≡◌, ℕ, ◌<◌, slice_index}
use Rattle.cmm_client.specs.Stops.{region_of, state_of}
use Rattle.cmm_abi.specs.Regions.{value_place, word_at}
use Rattle.cmm_client.proofs.values.values_of.Given as goal

abbrev pub invariant-loop-k : goal.invariant-loop-k
invariant-loop-k l = (j : ℕ) → j < l.k → slice_index l.value-items j ≡ word_at (state_of l.stopped) (value_place (region_of l.stopped) j)
