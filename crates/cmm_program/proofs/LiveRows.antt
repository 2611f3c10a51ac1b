-- Worked rows: which variables are live at a call site.
use Rattle.std.proofs.Common.{◌≡◌, ℕ, Bool, true, false, refl, List, [], ◌∷◌}
use Rattle.std.specs.Prelude.{map}
use Rattle.cmm_program.specs.declared.procedure.Proc.{Proc}
use Rattle.cmm_program.specs.Liveness.{is_live_at}
use Rattle.cmm_program.specs.State.{Ended, Done}
use Rattle.cmm_program.specs.Machine.{state_after}
use Rattle.cmm_program.proofs.Samples.{opened, setting, no_client, seen, silent}
use Rattle.cmm_program.proofs.Flowing.{looping, looping-main, through-main, own_cut, own_cut-main, arms-main}

-- which of some variables are live at the site 0
abbrev live : Proc → List ℕ → List Bool
live p variables = map (is_live_at p 0) variables

-- i is tested after the call; t is written by it, and u is never read
looping_live : live looping-main (0 ∷ 1 ∷ 2 ∷ []) ≡ true ∷ false ∷ false ∷ []
unfolding opened
looping_live = refl

looping_runs : seen (state_after (setting looping 64 no_client) [] 60) ≡ silent (Ended (Done 6)) []
unfolding opened
looping_runs = refl

-- from the call on, a path goes through the checked operator to a and b; at the operator's own site nothing is live
through_live : live through-main (0 ∷ 1 ∷ 2 ∷ 3 ∷ []) ≡ true ∷ true ∷ false ∷ false ∷ []
unfolding opened
through_live = refl

through_own_site : map (is_live_at through-main 1) (0 ∷ 1 ∷ 2 ∷ []) ≡ false ∷ false ∷ false ∷ []
unfolding opened
through_own_site = refl

-- x is a parameter of the continuation, y is not
own_cut_live : live own_cut-main (0 ∷ 1 ∷ []) ≡ false ∷ true ∷ []
unfolding opened
own_cut_live = refl

own_cut_runs : seen (state_after (setting own_cut 64 no_client) [] 10) ≡ silent (Ended (Done 1)) []
unfolding opened
own_cut_runs = refl

-- what follows a switch without a default is reached through its arms alone
arms_live : live arms-main (0 ∷ 1 ∷ []) ≡ true ∷ false ∷ []
unfolding opened
arms_live = refl
