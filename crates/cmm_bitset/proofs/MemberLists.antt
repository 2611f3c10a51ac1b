-- The list of a set's members.
use Rattle.std.proofs.Common.{◌≡◌, ◌↔◌, ℕ, zero, suc, ◌+◌, ◌-◌, ◌<◌, inl, inr, Bool, true, false, cond, List, [], ◌∷◌, length, get_or, refl, sym, ◌∙◌, ap, zero-add, arith}
use Rattle.std.specs.List.{filter, range_with_len, Contains}
use Rattle.std.specs.List.Sorted.{IsStrictlyIncreasing}
use Rattle.std.proofs.lemmas.Bool.{cases_lt, false≢true}
use Rattle.std.proofs.lemmas.List.{get_or_past}
use Rattle.std.proofs.lemmas.List.FromFn.{length-range_with_len, get_or-range_with_len}
use Rattle.std.proofs.lemmas.List.Kept.{IsStrictlyIncreasing-filter}
use Rattle.cmm_bitset.specs.Sets.{has, members}

-- what a list has, it has with one more in front or without
kept : (b : Bool) (y : ℕ) (ys : List ℕ) (x : ℕ) → Contains ys x → Contains (cond b (y ∷ ys) ys) x
kept true y ys x found = (suc found.0, omega (arith, found.1), found.2)
kept false y ys x found = found

-- an element that passes is in the filtered list
filter_keeps : (p : ℕ → Bool) (xs : List ℕ) (x k : ℕ) → k < length xs → get_or xs k x ≡ x → p x ≡ true → Contains (filter p xs) x
filter_keeps p [] x k low here passes = absurd (omega arith)
filter_keeps p (y ∷ ys) x zero low here passes = rw (here, passes) (zero, omega arith, refl)
filter_keeps p (y ∷ ys) x (suc k) low here passes = kept (p y) y (filter p ys) x (filter_keeps p ys x k (omega arith) here passes)

-- and what is in the filtered list is an element that passes
came_from : (p : ℕ → Bool) (y : ℕ) (ys : List ℕ) (x : ℕ) (b : Bool) → p y ≡ b → (Contains (filter p ys) x → Contains ys x × (p x ≡ true))
    → Contains (cond b (y ∷ filter p ys) (filter p ys)) x → Contains (y ∷ ys) x × (p x ≡ true)
came_from p y ys x true passes rest found = at found.0 found.1 found.2
  where
    at : (k : ℕ) → k < length (y ∷ filter p ys) → get_or (y ∷ filter p ys) k x ≡ x → Contains (y ∷ ys) x × (p x ≡ true)
    at zero low here = ((zero, omega arith, here), ap p (sym here) ∙ passes)
    at (suc k) low here = let there = rest (k, omega arith, here) in ((suc there.0.0, omega (arith, there.0.1), there.0.2), there.1)
came_from p y ys x false passes rest found = let there = rest found in ((suc there.0.0, omega (arith, there.0.1), there.0.2), there.1)

filter_from : (p : ℕ → Bool) (xs : List ℕ) (x : ℕ) → Contains (filter p xs) x → Contains xs x × (p x ≡ true)
filter_from p [] x found = absurd (omega (arith, found.1))
filter_from p (y ∷ ys) x found = came_from p y ys x (p y) refl (filter_from p ys x) found

-- a member is below the size
below : (s : List Bool) (number : ℕ) → has s number ≡ true → number < length s
below s number member = elim (cases_lt number (length s)) [
  | inl within ↦ within
  | inr past ↦ absurd (false≢true (sym (get_or_past s number false past) ∙ member))
]

-- the members are the numbers that the set has
pub members_had : (s : List Bool) (number : ℕ) → Contains (members s) number ↔ (has s number ≡ true)
members_had s number = (
  λ found. (filter_from (has s) (range_with_len 0 (length s - 0)) number found).1,
  λ member. filter_keeps (has s) (range_with_len 0 (length s - 0)) number number
      (omega (arith, length-range_with_len 0 (length s - 0), below s number member))
      (get_or-range_with_len 0 (length s - 0) number number (omega (arith, below s number member)) ∙ zero-add number) member,
)

range_ascends : (size : ℕ) → IsStrictlyIncreasing (range_with_len 0 size)
range_ascends size k low =
    let size_is = length-range_with_len 0 size in
    omega (arith, get_or-range_with_len 0 size k 0 (omega arith), get_or-range_with_len 0 size (k + 1) 0 (omega arith))

-- each member is below the next
pub members_ascend : (s : List Bool) → IsStrictlyIncreasing (members s)
members_ascend s = IsStrictlyIncreasing-filter (has s) (range_with_len 0 (length s - 0)) (range_ascends (length s - 0))
