-- Worked rows: each unchecked error is met by a program of its own, at its step, with what came before kept.
use Rattle.std.proofs.Common.{◌≡◌, refl, []}
use Rattle.std.specs.Prelude.{codes}
use Rattle.cmm_program.specs.Errors.{ZeroDivisor, BadAccess, UnwrittenRead, NotAProcedure, WrongValues, WrongAlternates, NeverReturns, NoSuchCut, NoArm, EndOfBody, ContinuationFromAbove}
use Rattle.cmm_program.specs.State.{Running, Wrong}
use Rattle.cmm_program.specs.Machine.{state_after}
use Rattle.cmm_program.proofs.Samples.{opened, setting, no_client, seen, silent}
use Rattle.cmm_program.proofs.Erring.{zero, outside, unwritten, no_procedure, counts, exits, never, no_cut, no_arm, no_return, from_above}

zero_divisor : seen (state_after (setting zero 64 no_client) [] 1) ≡ silent (Wrong ZeroDivisor) []
unfolding opened
zero_divisor = refl

-- the byte that was put before stays
before_bad_access : seen (state_after (setting outside 64 no_client) [] 1) ≡ silent Running (codes "A")
unfolding opened
before_bad_access = refl

bad_access : seen (state_after (setting outside 64 no_client) [] 2) ≡ silent (Wrong BadAccess) (codes "A")
unfolding opened
bad_access = refl

unwritten_read : seen (state_after (setting unwritten 64 no_client) [] 1) ≡ silent (Wrong UnwrittenRead) []
unfolding opened
unwritten_read = refl

not_a_procedure : seen (state_after (setting no_procedure 64 no_client) [] 1) ≡ silent (Wrong NotAProcedure) []
unfolding opened
not_a_procedure = refl

wrong_values : seen (state_after (setting counts 64 no_client) [] 1) ≡ silent (Wrong WrongValues) []
unfolding opened
wrong_values = refl

wrong_alternates : seen (state_after (setting exits 64 no_client) [] 2) ≡ silent (Wrong WrongAlternates) []
unfolding opened
wrong_alternates = refl

never_returns : seen (state_after (setting never 64 no_client) [] 2) ≡ silent (Wrong NeverReturns) []
unfolding opened
never_returns = refl

no_such_cut : seen (state_after (setting no_cut 64 no_client) [] 1) ≡ silent (Wrong NoSuchCut) []
unfolding opened
no_such_cut = refl

no_arm_for : seen (state_after (setting no_arm 64 no_client) [] 1) ≡ silent (Wrong NoArm) []
unfolding opened
no_arm_for = refl

-- the end of a body is a step of its own, and so is a continuation from above
before_end_of_body : seen (state_after (setting no_return 64 no_client) [] 1) ≡ silent Running []
unfolding opened
before_end_of_body = refl

end_of_body : seen (state_after (setting no_return 64 no_client) [] 2) ≡ silent (Wrong EndOfBody) []
unfolding opened
end_of_body = refl

continuation_from_above : seen (state_after (setting from_above 64 no_client) [] 2) ≡ silent (Wrong ContinuationFromAbove) []
unfolding opened
continuation_from_above = refl
