-- The pieces of a unit, from the front.
use Rattle.std.proofs.Common.{◌≡◌, ℕ, zero, suc, ◌+◌, ◌-◌, ◌<◌, ◌==◌, List, [], ◌∷◌, ◌++◌, length, drop, get_or, refl, ap, ◌∙◌, arith, append_assoc}
use Rattle.std.proofs.Math.Seq.{drop-cons}
use Rattle.std.proofs.lemmas.List.{drop-drop}
use Rattle.std.specs.List.{flat_map}
use Rattle.cmm_lexer.specs.declared.piece.Piece.{Piece}
use Rattle.cmm_lexer.specs.Places.{column_at}
use Rattle.cmm_lexer.specs.Pieces.{Placed, piece_at, pieces_from}
use Rattle.cmm_lexer.specs.inside.Reached.{pieces_at}

-- bytes that are owned are passed by
pieces_from-owned : (unit : List ℕ) (n place : ℕ) (bs : List ℕ) → pieces_from unit n place bs ≡ pieces_from unit 0 (place + n) (drop n bs)
unfolding pieces_from
pieces_from-owned unit zero place bs = let e : place + 0 ≡ place = omega arith in rw e refl
pieces_from-owned unit (suc n) place [] = refl
pieces_from-owned unit (suc n) place (b ∷ bs) = let e : place + suc n ≡ suc place + n = omega arith in rw e (pieces_from-owned unit n (suc place) bs)

pieces_from-cons : (unit : List ℕ) (place b : ℕ) (bs : List ℕ) (p : Piece) → p ≡ piece_at (column_at unit place == 1) (b ∷ bs) → pieces_from unit 0 place (b ∷ bs) ≡ record { start = place; piece = p } ∷ pieces_from unit (p.len - 1) (suc place) bs
unfolding pieces_from
pieces_from-cons unit place b bs p e = rw e refl

-- the first of the pieces from a place on, and those after it
pub pieces_at-step : (unit : List ℕ) (place : ℕ) (p : Piece) → place < length unit → p ≡ piece_at (column_at unit place == 1) (drop place unit) → 0 < p.len → pieces_at unit place ≡ record { start = place; piece = p } ∷ pieces_at unit (place + p.len)
pieces_at-step unit place p h e l =
    let front : drop place unit ≡ get_or unit place 0 ∷ drop (suc place) unit = drop-cons unit place 0 h in
    let there : suc place + (p.len - 1) ≡ place + p.len = omega arith in
    rw front (pieces_from-cons unit place (get_or unit place 0) (drop (suc place) unit) p (rw front at e)
    ∙ ap (λ (ps : List Placed). record { start = place; piece = p } ∷ ps) (pieces_from-owned unit (p.len - 1) (suc place) (drop (suc place) unit) ∙ rw (drop-drop (p.len - 1) (suc place) unit, there) refl))

-- what the first piece gives goes after what there is
pub given-step : {A : Type 0} (f : Placed → List A) (before after given : List A) (p : Placed) (ps qs : List Placed) → qs ≡ p ∷ ps → before ++ flat_map f qs ≡ given → after ≡ before ++ f p → after ++ flat_map f ps ≡ given
given-step f before after given p ps qs q h e = rw e (append_assoc before (f p) (flat_map f ps) ∙ (rw q at h))

-- a piece that gives nothing
pub nothing-step : {A : Type 0} (f : Placed → List A) (given : List A) (p : Placed) (ps qs : List Placed) → qs ≡ p ∷ ps → flat_map f qs ≡ given → f p ≡ [] → flat_map f ps ≡ given
nothing-step f given p ps qs q h e = let there = rw q at h in rw e at there
