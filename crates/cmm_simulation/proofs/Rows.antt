-- Worked rows, by computing: runs of the small machines on inputs written by hand.
use Rattle.std.proofs.Common.{◌≡◌, refl}
use Rattle.std.specs.Prelude.{[], ◌∷◌, true, false, Some}
use Rattle.cmm_simulation.specs.Machine.{after, spent}
use Rattle.cmm_simulation.specs.Reader.{reader, start}
use Rattle.cmm_simulation.specs.Seen.{End}
use Rattle.cmm_simulation.specs.Ticking.{ticking}

numbers_are_put : ((reader true).seen (after (reader true) 2 (start (5 ∷ 1 ∷ [])))).output ≡ 4 ∷ 0 ∷ []
numbers_are_put = refl

it_ends : (reader true).asks (after (reader true) 3 (start (5 ∷ 1 ∷ []))) ≡ Some (End 2)
it_ends = refl

it_fails : (reader true).wrong (after (reader true) 2 (start (5 ∷ 0 ∷ []))) ≡ true
it_fails = refl

ticks_go_on : ((ticking (reader false)).seen (after (ticking (reader false)) 2 (start (0 ∷ 3 ∷ []), false))).taken ≡ 0 ∷ []
ticks_go_on = refl

steps_cost : spent (reader true) (λ _. 2) 7 (start (5 ∷ [])) ≡ 14
steps_cost = refl

-- of four ticks of ticks a reader makes one step, though each of the two machines passes over each second one alone: where ranks rise again, slacks multiply
three_ticks_of_ticks : (ticking (ticking (reader true))).seen (after (ticking (ticking (reader true))) 3 ((start (5 ∷ []), false), false)) ≡ (reader true).seen (start (5 ∷ []))
three_ticks_of_ticks = refl

fourth_tick_of_ticks : ((ticking (ticking (reader true))).seen (after (ticking (ticking (reader true))) 4 ((start (5 ∷ []), false), false))).output ≡ 4 ∷ []
fourth_tick_of_ticks = refl
