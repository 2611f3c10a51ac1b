-- Worked lists: the nodes 2 and 0 in one list, none in the next, 3 in the last.
use Rattle.std.proofs.Common.{◌≡◌, ℕ, Bool, true, false, List, [], ◌∷◌, Option, Some, None, refl}
use Rattle.cmm_ilist.specs.NodeLists.{after_in, front_of, has, is_distinct, is_in_some, list_at, without}
use Rattle.cmm_ilist.specs.inside.Linked.{back_of, before_in, lists_of}

abbrev three : List (List ℕ)
three = (2 ∷ 0 ∷ []) ∷ [] ∷ (3 ∷ []) ∷ []

list_at-second : ◌≡◌ {A = List (List ℕ)} (list_at three 0 ∷ list_at three 1 ∷ list_at three 3 ∷ []) ((2 ∷ 0 ∷ []) ∷ [] ∷ [] ∷ [])
list_at-second = refl

has-first : ◌≡◌ {A = List Bool} (has 2 (2 ∷ 0 ∷ []) ∷ has 0 (2 ∷ 0 ∷ []) ∷ has 3 (2 ∷ 0 ∷ []) ∷ []) (true ∷ true ∷ false ∷ [])
has-first = refl

is_in_some-three : ◌≡◌ {A = List Bool} (is_in_some 3 three ∷ is_in_some 1 three ∷ []) (true ∷ false ∷ [])
is_in_some-three = refl

is_distinct-twice : ◌≡◌ {A = List Bool} (is_distinct (2 ∷ 0 ∷ []) ∷ is_distinct (2 ∷ 0 ∷ 2 ∷ []) ∷ []) (true ∷ false ∷ [])
is_distinct-twice = refl

front_of-three : ◌≡◌ {A = List (Option ℕ)} (front_of (list_at three 0) ∷ front_of (list_at three 1) ∷ []) (Some 2 ∷ None ∷ [])
front_of-three = refl

after_in-first : ◌≡◌ {A = List (Option ℕ)} (after_in 2 (2 ∷ 0 ∷ []) ∷ after_in 0 (2 ∷ 0 ∷ []) ∷ []) (Some 0 ∷ None ∷ [])
after_in-first = refl

without-middle : without 0 (2 ∷ 0 ∷ 1 ∷ []) ≡ 2 ∷ 1 ∷ []
without-middle = refl

before_in-first : ◌≡◌ {A = List (Option ℕ)} (before_in None 2 (2 ∷ 0 ∷ []) ∷ before_in None 0 (2 ∷ 0 ∷ []) ∷ []) (None ∷ Some 2 ∷ [])
before_in-first = refl

back_of-first : ◌≡◌ {A = List (Option ℕ)} (back_of None (2 ∷ 0 ∷ []) ∷ back_of None [] ∷ []) (Some 0 ∷ None ∷ [])
back_of-first = refl

-- node 2 leads to node 0, and the others to none
lists_of-three : lists_of 4 (None ∷ None ∷ Some 0 ∷ None ∷ []) (Some 2 ∷ None ∷ Some 3 ∷ []) ≡ three
lists_of-three = refl
