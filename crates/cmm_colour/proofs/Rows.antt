-- Worked rows, by hand: a triangle, and a fourth node beside one of its corners.
use Rattle.std.proofs.Common.{◌≡◌, ℕ, Bool, true, false, List, [], ◌∷◌, replicate, Option, Some, None, map, refl}
use Rattle.cmm_colour.specs.Colours.{colour_of}
use Rattle.cmm_colour.specs.Graphs.{adjacent, joined, row}
use Rattle.cmm_colour.specs.Peeling.{Peels, degree_left, is_peeling}
use Rattle.cmm_colour.specs.inside.Choosing.{colours_of}
use Rattle.cmm_colour.specs.inside.Removing.{left_of, list_for, lowered_degrees, lowered_lists, moved}

abbrev triangle : List (List ℕ)
triangle = (1 ∷ 2 ∷ []) ∷ (0 ∷ 2 ∷ []) ∷ (0 ∷ 1 ∷ 3 ∷ []) ∷ (2 ∷ []) ∷ []

-- ---- joins

joined-all : joined 2 3 (joined 1 2 (joined 0 2 (joined 0 1 (replicate 4 [])))) ≡ triangle
joined-all = refl

-- nodes that are joined twice stand twice
joined-twice : joined 0 1 (joined 0 1 (replicate 3 [])) ≡ (1 ∷ 1 ∷ []) ∷ (0 ∷ 0 ∷ []) ∷ [] ∷ []
joined-twice = refl

adjacent-triangle : ◌≡◌ {A = List Bool} (map (adjacent triangle 3) (0 ∷ 1 ∷ 2 ∷ 3 ∷ 4 ∷ [])) (false ∷ false ∷ true ∷ false ∷ false ∷ [])
adjacent-triangle = refl

-- ---- peeling

degree_left-corner : ◌≡◌ {A = List ℕ} (degree_left 4 (adjacent triangle) [] 2 ∷ degree_left 4 (adjacent triangle) (3 ∷ []) 2 ∷ []) (3 ∷ 2 ∷ [])
degree_left-corner = refl

beside_peels : Peels 4 (adjacent triangle) 2 3
beside_peels = record { earlier = []; peeling = refl }

-- the corner has three neighbours, and two once the fourth node has gone
corner_peels : Peels 4 (adjacent triangle) 3 2
corner_peels = record { earlier = 3 ∷ []; peeling = refl }

corner_not_first : is_peeling 4 (adjacent triangle) 3 [] (2 ∷ []) ≡ false
corner_not_first = refl

triangle_stays : is_peeling 4 (adjacent triangle) 2 [] (3 ∷ 2 ∷ []) ≡ false
triangle_stays = refl

-- with three colours all of it peels
triangle_peels : is_peeling 4 (adjacent triangle) 3 [] (3 ∷ 2 ∷ 1 ∷ 0 ∷ []) ≡ true
triangle_peels = refl

-- ---- removing: two colours, so that the fourth node alone is in the first list

left_of-corner : ◌≡◌ {A = List ℕ} (left_of [] (row triangle 2) ∷ left_of (3 ∷ 1 ∷ []) (row triangle 2) ∷ []) (3 ∷ 1 ∷ [])
left_of-corner = refl

list_for-two : ◌≡◌ {A = List ℕ} (map (list_for 2) (1 ∷ 2 ∷ 3 ∷ [])) (0 ∷ 1 ∷ 1 ∷ [])
list_for-two = refl

moved-first : moved 1 ((3 ∷ []) ∷ (0 ∷ 1 ∷ 2 ∷ []) ∷ []) ≡ (3 ∷ 1 ∷ []) ∷ (0 ∷ 2 ∷ []) ∷ []
moved-first = refl

-- the fourth node is gone: the corner has two neighbours left, which is no change of list
lowered-corner : lowered_lists 2 2 (record { nodes = 4; lists = [] ∷ (0 ∷ 1 ∷ 2 ∷ []) ∷ [] }) (2 ∷ 2 ∷ 3 ∷ 1 ∷ []) ≡ [] ∷ (0 ∷ 1 ∷ 2 ∷ []) ∷ []
lowered-corner = refl

-- the corner is gone too: the next node of the triangle has one left, and changes its list
lowered-next : lowered_lists 2 0 (record { nodes = 4; lists = [] ∷ (0 ∷ 1 ∷ []) ∷ [] }) (2 ∷ 2 ∷ 2 ∷ 1 ∷ []) ≡ (0 ∷ []) ∷ (1 ∷ []) ∷ []
lowered-next = refl

lowered_degrees-next : lowered_degrees 0 (record { nodes = 4; lists = [] ∷ (0 ∷ 1 ∷ []) ∷ [] }) (2 ∷ 2 ∷ 2 ∷ 1 ∷ []) ≡ 1 ∷ 2 ∷ 2 ∷ 1 ∷ []
lowered_degrees-next = refl

-- ---- colours

colour_of-first : ◌≡◌ {A = List (Option ℕ)} (map (colour_of (Some 1 ∷ None ∷ [])) (0 ∷ 1 ∷ 2 ∷ [])) (Some 1 ∷ None ∷ None ∷ [])
colour_of-first = refl

colours_of-neighbours : colours_of (row triangle 2) (Some 1 ∷ None ∷ None ∷ Some 0 ∷ []) ≡ 1 ∷ 0 ∷ []
colours_of-neighbours = refl
