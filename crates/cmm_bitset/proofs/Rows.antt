-- Worked sets: the members 1 and 3 of the numbers below 4, the member 2, and no member.
use Rattle.std.proofs.Common.{◌≡◌, ℕ, Bool, true, false, List, [], ◌∷◌, refl}
use Rattle.cmm_bitset.specs.Sets.{has, union, members, members_from, member_count}
use Rattle.cmm_bitset.specs.inside.Words.{set_of}

abbrev odd : List Bool
odd = false ∷ true ∷ false ∷ true ∷ []

abbrev two : List Bool
two = false ∷ false ∷ true ∷ false ∷ []

abbrev none : List Bool
none = false ∷ false ∷ false ∷ false ∷ []

has-odd : ◌≡◌ {A = List Bool} (has odd 0 ∷ has odd 1 ∷ has odd 3 ∷ has odd 4 ∷ []) (false ∷ true ∷ true ∷ false ∷ [])
has-odd = refl

union-two : union odd two ≡ false ∷ true ∷ true ∷ true ∷ []
union-two = refl

union-none : union odd none ≡ odd
union-none = refl

members-odd : ◌≡◌ {A = List ℕ} (members odd) (1 ∷ 3 ∷ [])
members-odd = refl

members-two : ◌≡◌ {A = List ℕ} (members_from odd 2) (3 ∷ [])
members-two = refl

members-none : members none ≡ []
members-none = refl

member_count-odd : ◌≡◌ {A = ℕ} (member_count odd) 2
member_count-odd = refl

-- the word 10 has the bits 1 and 3
set_of-ten : set_of (10 ∷ []) 4 ≡ odd
set_of-ten = refl

-- the lowest bit of the second word is number 64
members-second : ◌≡◌ {A = List ℕ} (members (set_of (0 ∷ 1 ∷ []) 65)) (64 ∷ [])
members-second = refl
