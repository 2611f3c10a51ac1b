-- Worked rows, by computing: which transfers have a chain behind them, and what rank a state has.
use Rattle.std.proofs.Common.{◌≡◌, refl}
use Rattle.std.specs.Prelude.{[], ◌∷◌}
use Rattle.cmm_program.specs.Exits.{Called, Instead, Back}
use Rattle.cmm_program.specs.Performing.{Stay, Away}
use Rattle.cmm_program.specs.State.{Store}
use Rattle.cmm_rewriting.specs.Places.{entry_cost}
use Rattle.cmm_rewriting.specs.States.{rank_of}

module _ (store : Store) where
  call_has_a_chain : entry_cost 3 (Away 0 store (Called 1 2 [])) ≡ 3
  call_has_a_chain = refl

  jump_has_a_chain : entry_cost 3 (Away 1 store (Instead 2 (7 ∷ []))) ≡ 3
  jump_has_a_chain = refl

  return_has_none : entry_cost 3 (Away 1 store (Back (7 ∷ []))) ≡ 0
  return_has_none = refl

  one_that_stays_has_none : entry_cost 3 (Stay 0 store) ≡ 0
  one_that_stays_has_none = refl

  rank_is_of_the_youngest : rank_of (λ c. c) record { store = store; controls = 4 ∷ 9 ∷ [] } ≡ 4
  rank_is_of_the_youngest = refl

  none_has_rank_zero : rank_of (λ c. c) record { store = store; controls = [] } ≡ 0
  none_has_rank_zero = refl
