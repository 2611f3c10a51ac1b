-- Worked rows: calls, returns, cuts and input, run to their ends.
use Rattle.std.proofs.Common.{◌≡◌, refl, List, [], ◌∷◌}
use Rattle.cmm_program.specs.State.{Activation, Ended, Done, StackLimit}
use Rattle.cmm_program.specs.Machine.{state_after}
use Rattle.cmm_program.proofs.Commanding.{jumping}
use Rattle.cmm_program.proofs.Samples.{opened, setting, no_client, Seen, seen, silent}
use Rattle.cmm_program.proofs.Calls.{sum, tail, deep, alternates, cutting, parallel, input}

sum_runs : seen (state_after (setting sum 64 no_client) [] 1) ≡ silent (Ended (Done 5)) []
unfolding opened
sum_runs = refl

-- 100 tail calls in a stack for one activation of each procedure
tail_runs : seen (state_after (setting tail 64 no_client) [] 400) ≡ silent (Ended (Done 7)) []
unfolding opened
tail_runs = refl

-- frames of 48 and 32 bytes: the stack has just room for one of the first and ten of the second
deep_runs : seen (state_after (setting deep 368 no_client) [] 100) ≡ silent (Ended (Done 9)) []
unfolding opened
deep_runs = refl

deep_ends : seen (state_after (setting deep 352 no_client) [] 100) ≡ silent (Ended StackLimit) []
unfolding opened
deep_ends = refl

alternates_runs : seen (state_after (setting alternates 4096 no_client) [] 100) ≡ silent (Ended (Done 101302003)) []
unfolding opened
alternates_runs = refl

cutting_runs : seen (state_after (setting cutting 4096 no_client) [] 20) ≡ silent (Ended (Done 42)) []
unfolding opened
cutting_runs = refl

parallel_runs : seen (state_after (setting parallel 4096 no_client) [] 20) ≡ silent (Ended (Done 1007856342)) []
unfolding opened
parallel_runs = refl

input_ends : seen (state_after (setting input 64 no_client) [] 5) ≡ silent (Ended (Done 18446744073709551615)) []
unfolding opened
input_ends = refl

input_runs : seen (state_after (setting input 64 no_client) (255 ∷ []) 5) ≡ silent (Ended (Done 255)) []
unfolding opened
input_runs = refl

-- the byte is taken
input_taken : (state_after (setting input 64 no_client) (255 ∷ 7 ∷ []) 5).store.taken ≡ 255 ∷ []
unfolding opened
input_taken = refl

-- a jump from a frame of 16 bytes to one of 48: the first is gone, and in 32 bytes there is no room for the second
jump_ends : let st = state_after (setting jumping 32 no_client) [] 1 in
    ◌≡◌ {A = Seen × List Activation} (seen st, st.store.activations) (silent (Ended StackLimit) [], [])
unfolding opened
jump_ends = refl

jump_fits : seen (state_after (setting jumping 48 no_client) [] 2) ≡ silent (Ended (Done 1)) []
unfolding opened
jump_fits = refl
