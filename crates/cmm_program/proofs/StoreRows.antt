-- Worked rows: registers, memory, control within a body, and the stack limit.
use Rattle.std.proofs.Common.{◌≡◌, refl, [], ◌∷◌}
use Rattle.std.specs.Prelude.{None, map, codes}
use Rattle.cmm_script.specs.declared.script.Command.TheVariants.{Cut}
use Rattle.cmm_script.specs.declared.script.Value.TheVariants.{Number, Yielded}
use Rattle.cmm_program.specs.Errors.{BadAccess, UnwrittenRead}
use Rattle.cmm_program.specs.State.{Ended, Done, StackLimit, Wrong}
use Rattle.cmm_program.specs.Machine.{state_after}
use Rattle.cmm_program.proofs.Samples.{opened, setting, no_client, client, other, seen, silent, logs}
use Rattle.cmm_program.proofs.Calls.{sum, tail}
use Rattle.cmm_program.proofs.Storing.{registers, stackbytes, partly, misaligned, half_aligned, swapping, into, cut_by_client}

registers_run : seen (state_after (setting registers 64 no_client) [] 30) ≡ silent (Ended (Done 13)) []
unfolding opened
registers_run = refl

stackbytes_run : seen (state_after (setting stackbytes 64 no_client) [] 5) ≡ silent (Ended (Done 341)) []
unfolding opened
stackbytes_run = refl

partly_unwritten : seen (state_after (setting partly 64 no_client) [] 2) ≡ silent (Wrong UnwrittenRead) []
unfolding opened
partly_unwritten = refl

not_aligned : seen (state_after (setting misaligned 64 no_client) [] 1) ≡ silent (Wrong BadAccess) []
unfolding opened
not_aligned = refl

aligned_as_written : seen (state_after (setting half_aligned 64 no_client) [] 1) ≡ silent (Ended (Done 8589934592)) []
unfolding opened
aligned_as_written = refl

swapping_runs : seen (state_after (setting swapping 64 no_client) [] 3) ≡ silent (Ended (Done 21)) []
unfolding opened
swapping_runs = refl

into_runs : seen (state_after (setting into 64 no_client) [] 3) ≡ silent (Ended (Done 11)) []
unfolding opened
into_runs = refl

-- the first activation does not fit a stack that is too small
ends_at_start : seen (state_after (setting sum 0 no_client) [] 0) ≡ silent (Ended StackLimit) []
unfolding opened
ends_at_start = refl

-- nor the second; the caller is not yet suspended then
ends_at_call : seen (state_after (setting tail 16 no_client) [] 1) ≡ silent (Ended StackLimit) []
unfolding opened
ends_at_call = refl

caller_not_suspended : map (λ f. f.site) (state_after (setting tail 16 no_client) [] 1).store.activations ≡ None ∷ []
unfolding opened
caller_not_suspended = refl

-- the value of a continuation is the address of its pair; the client cuts to it
client_cuts :
    seen (state_after (setting cut_by_client 4096 (client (other (
    Cut (Yielded 0) [] ∷ Cut (Number 1610620881) [] ∷ Cut (Yielded 0) (Number 41 ∷ []) ∷ []) ∷ []))) [] 10)
    ≡ logs (Ended (Done 42)) (codes "yield 1610620880" ∷ codes "refused 65" ∷ codes "refused 67" ∷ codes "resume" ∷ [])
unfolding opened
client_cuts = refl
