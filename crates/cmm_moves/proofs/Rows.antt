-- Small moves, worked out by hand. At first each place has ten times its number.
use Rattle.std.proofs.Common.{◌≡◌, ℕ, ◌*◌, true, false, [], ◌∷◌, map, refl}
use Rattle.std.specs.Prelude.{nat_le}
use Rattle.cmm_moves.specs.declared.sequencing.Move.{Move}
use Rattle.cmm_moves.specs.Moves.{in_order, at_once, are_apart, is_outside}

move : ℕ → ℕ → Move
move to from = record { to = to; from = from }

before : ℕ → ℕ
before place = 10 * place

unfoldable opened : Unit {0}
unfolding move before
opened = tt

-- two places are exchanged at once, but not in order
row_exchange : map (at_once (move 1 2 ∷ move 2 1 ∷ []) before) (1 ∷ 2 ∷ 3 ∷ []) ≡ 20 ∷ 10 ∷ 30 ∷ []
unfolding opened
row_exchange = refl

row_overwritten : map (in_order (move 1 2 ∷ move 2 1 ∷ []) before) (1 ∷ 2 ∷ 3 ∷ []) ≡ 20 ∷ 20 ∷ 30 ∷ []
unfolding opened
row_overwritten = refl

-- by way of a third place they are
row_by_scratch : map (in_order (move 3 1 ∷ move 1 2 ∷ move 2 3 ∷ []) before) (1 ∷ 2 ∷ []) ≡ 20 ∷ 10 ∷ []
unfolding opened
row_by_scratch = refl

-- a chain, whose order matters, and a source with two readers
row_chain : map (at_once (move 1 2 ∷ move 2 3 ∷ move 4 3 ∷ []) before) (1 ∷ 2 ∷ 3 ∷ 4 ∷ []) ≡ 20 ∷ 30 ∷ 30 ∷ 30 ∷ []
unfolding opened
row_chain = refl

row_one_target : are_apart (move 1 2 ∷ move 2 1 ∷ move 1 3 ∷ []) ≡ false
unfolding opened
row_one_target = refl

-- places up to 3
row_outside : (is_outside (λ place. nat_le place 3) (move 1 2 ∷ move 2 3 ∷ []) ≡ false) × (is_outside (λ place. nat_le place 3) (move 1 2 ∷ move 2 4 ∷ []) ≡ true)
unfolding opened
row_outside = (refl, refl)
