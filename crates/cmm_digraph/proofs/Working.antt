-- How many steps are left.
use Rattle.std.proofs.Common.{◌≡◌, ℕ, suc, zero, ◌+◌, ◌<◌, ◌≤◌, true, false, List, [], ◌∷◌, length, set, refl, ap, arith}
use Rattle.cmm_digraph.specs.Graphs.{mentions}
use Rattle.cmm_digraph.specs.declared.search.State.{State}
use Rattle.cmm_digraph.specs.declared.search.State.TheVariants.{New, Open, Closed}
use Rattle.cmm_digraph.specs.inside.Components.{state_of}
use Rattle.cmm_digraph.specs.inside.Searched.{is_new, steps_of, to_come}

no_steps : (s : State) (row : List ℕ) → is_new s ≡ false → steps_of s row ≡ 0
no_steps New row h = cc
no_steps (Open place) row h = refl
no_steps Closed row h = refl

-- a new node becomes another
pub to_come_set : (states : List State) (rows : List (List ℕ)) (v : ℕ) (s : State) → v < length states → v < length rows → state_of states v ≡ New → is_new s ≡ false →
    to_come (set states v s) rows + suc (length (mentions rows v)) ≡ to_come states rows
to_come_set [] rows v s lt within new old = absurd (omega arith)
to_come_set (t ∷ states) [] v s lt within new old = absurd (omega arith)
to_come_set (t ∷ states) (row ∷ rows) zero s lt within new old =
    let a : steps_of s row ≡ 0 = no_steps s row old in let b : steps_of t row ≡ suc (length row) = ap (λ u. steps_of u row) new in omega arith
to_come_set (t ∷ states) (row ∷ rows) (suc v) s lt within new old =
    let a : to_come (set states v s) rows + suc (length (mentions rows v)) ≡ to_come states rows = to_come_set states rows v s (omega arith) (omega arith) new old in omega arith

fewer_steps : (s t : State) (row : List ℕ) → (is_new t ≡ true → is_new s ≡ true) → steps_of t row ≤ steps_of s row
fewer_steps New New row h = omega arith
fewer_steps (Open place) New row h = let f : false ≡ true = h refl in cc
fewer_steps Closed New row h = let f : false ≡ true = h refl in cc
fewer_steps s (Open place) row h = omega arith
fewer_steps s Closed row h = omega arith

-- no more nodes are new
pub to_come_less : (states states' : List State) (rows : List (List ℕ)) → length states' ≡ length states →
    ((node : ℕ) → is_new (state_of states' node) ≡ true → is_new (state_of states node) ≡ true) → to_come states' rows ≤ to_come states rows
to_come_less [] [] rows size older = omega arith
to_come_less [] (t ∷ states') rows size older = absurd (omega arith)
to_come_less (s ∷ states) [] rows size older = absurd (omega arith)
to_come_less (s ∷ states) (t ∷ states') [] size older = omega arith
to_come_less (s ∷ states) (t ∷ states') (row ∷ rows) size older =
    let a : steps_of t row ≤ steps_of s row = fewer_steps s t row (older 0) in
    let b : to_come states' rows ≤ to_come states rows = to_come_less states states' rows (omega arith) (λ node. older (suc node)) in omega arith
