-- What the list of a set says of membership.
use Rattle.std.proofs.Common.{◌≡◌, ◌≢◌, ℕ, ◌+◌, ◌-◌, ◌<◌, ◌≤◌, ◌⊎◌, inl, inr, suc, zero, Bool, true, false, ◌||◌, List, [], ◌∷◌, length, replicate, set, refl, sym, ◌∙◌, ap, add-zero, zero-add, arith}
use Rattle.std.proofs.Math.Bool.{or-true}
use Rattle.std.specs.List.{filter, range_with_len}
use Rattle.std.proofs.lemmas.List.{get_or-set_same, get_or-set_other, ext_get_or}
use Rattle.cmm_bitset.specs.Sets.{has, union, members_from, member_count}

-- the empty set has no member
pub has-replicate : (size number : ℕ) → has (replicate size false) number ≡ false
has-replicate zero number = refl
has-replicate (suc size) zero = refl
has-replicate (suc size) (suc number) = has-replicate size number

-- a number that is set is a member as it was set
pub has-set_same : (s : List Bool) (number : ℕ) (value : Bool) → number < length s → has (set s number value) number ≡ value
has-set_same s number value within = get_or-set_same s number value false within

-- and the others are what they were
pub has-set_other : (s : List Bool) (number other : ℕ) (value : Bool) → other ≢ number → has (set s number value) other ≡ has s other
has-set_other s number other value differ = get_or-set_other s number other value false differ

-- a member of the union is one of either
pub has-union : (s t : List Bool) (number : ℕ) → length s ≡ length t → has (union s t) number ≡ (has s number || has t number)
has-union [] [] number e = refl
has-union [] (y ∷ t) number e = absurd (omega arith)
has-union (x ∷ s) [] number e = absurd (omega arith)
has-union (x ∷ s) (y ∷ t) zero e = refl
has-union (x ∷ s) (y ∷ t) (suc number) e = has-union s t number (omega arith)

-- a union has the size of its parts
pub length-union : (s t : List Bool) → length s ≡ length t → length (union s t) ≡ length s
length-union [] [] e = refl
length-union [] (y ∷ t) e = refl
length-union (x ∷ s) [] e = absurd (omega arith)
length-union (x ∷ s) (y ∷ t) e = ap suc (length-union s t (omega arith))

-- sets of one size with the same members are one
pub same_from_has : (s t : List Bool) → length s ≡ length t → ((number : ℕ) → number < length s → has s number ≡ has t number) → s ≡ t
same_from_has s t e same = ext_get_or false s t e same

-- there are at most as many members as numbers
pub member_count-le : (s : List Bool) → member_count s ≤ length s
member_count-le [] = omega arith
member_count-le (true ∷ s) = omega (arith, member_count-le s)
member_count-le (false ∷ s) = omega (arith, member_count-le s)

-- a union has no fewer members than its first part
pub member_count-union : (s t : List Bool) → length s ≡ length t → member_count s ≤ member_count (union s t)
member_count-union [] [] e = omega arith
member_count-union [] (y ∷ t) e = omega arith
member_count-union (x ∷ s) [] e = absurd (omega arith)
member_count-union (true ∷ s) (y ∷ t) e = omega (arith, member_count-union s t (omega arith))
member_count-union (false ∷ s) (true ∷ t) e = omega (arith, member_count-union s t (omega arith))
member_count-union (false ∷ s) (false ∷ t) e = member_count-union s t (omega arith)

-- a union is its first part, or has more members
pub union_grows : (s t : List Bool) → length s ≡ length t → (union s t ≡ s) ⊎ (member_count s < member_count (union s t))
union_grows [] [] e = inl refl
union_grows [] (y ∷ t) e = inl refl
union_grows (x ∷ s) [] e = absurd (omega arith)
union_grows (true ∷ s) (y ∷ t) e =
    elim (union_grows s t (omega arith)) [ inl same ↦ inl (ap (λ r. true ∷ r) same) | inr more ↦ inr (omega arith) ]
union_grows (false ∷ s) (true ∷ t) e = inr (omega (arith, member_count-union s t (omega arith)))
union_grows (false ∷ s) (false ∷ t) e =
    elim (union_grows s t (omega arith)) [ inl same ↦ inl (ap (λ r. false ∷ r) same) | inr more ↦ inr more ]

-- nothing passes a filter of a range in which no number passes
filter_none : (p : ℕ → Bool) (from count : ℕ) → ((n : ℕ) → from ≤ n → p n ≡ false) → filter p (range_with_len from count) ≡ []
filter_none p from zero none = refl
filter_none p from (suc count) none =
    rw (none from (omega arith)) (filter_none p (from + 1) count (λ n h. none n (omega arith)))

-- what does not pass at the front of a range may be left out
filter_skip : (p : ℕ → Bool) (from skipped count : ℕ) → ((n : ℕ) → from ≤ n → n < from + skipped → p n ≡ false)
    → filter p (range_with_len from (skipped + count)) ≡ filter p (range_with_len (from + skipped) count)
filter_skip p from zero count none = rw (zero-add count, add-zero from) refl
filter_skip p from (suc skipped) count none =
    let here : from + 1 + skipped ≡ from + suc skipped = omega arith in
    let shift : suc skipped + count ≡ suc (skipped + count) = omega arith in
    rw (shift, none from (omega arith) (omega arith), filter_skip p (from + 1) skipped count (λ n low high. none n (omega arith) (omega arith)), here) refl

-- no member is left where none is from there on
pub members_from-none : (s : List Bool) (from : ℕ) → ((n : ℕ) → from ≤ n → has s n ≡ false) → members_from s from ≡ []
members_from-none s from none = filter_none (has s) from (length s - from) none

-- the least member comes first
pub members_from-least : (s : List Bool) (from least : ℕ) → from ≤ least → least < length s → has s least ≡ true
    → ((n : ℕ) → from ≤ n → n < least → has s n ≡ false) → members_from s from ≡ least ∷ members_from s (least + 1)
members_from-least s from least behind within member none =
    let skipped = least - from in
    let count = length s - (least + 1) in
    let split : length s - from ≡ skipped + suc count = omega arith in
    let there : from + skipped ≡ least = omega arith in
    rw (split, filter_skip (has s) from skipped (suc count) (λ n low high. none n low (omega arith)), there, member) refl

-- a set that a union leaves as it is has the members of the other
pub union_settled : (s t : List Bool) (number : ℕ) → length s ≡ length t → union s t ≡ s → has t number ≡ true → has s number ≡ true
union_settled s t number e settled member = ap (λ r. has r number) (sym settled) ∙ has-union s t number e ∙ rw member (or-true (has s number))
