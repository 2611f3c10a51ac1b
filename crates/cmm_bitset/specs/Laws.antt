-- What holds of all sets, by membership.
use Rattle.std.specs.Prelude.{◌≡◌, ◌≢◌, ◌↔◌, ℕ, ◌<◌, ◌≤◌, ◌||◌, Bool, true, false, List, length, replicate, slice_set, Contains}
use Rattle.std.specs.List.Sorted.{IsStrictlyIncreasing}
use Rattle.cmm_bitset.specs.Sets.{has, union, members, member_count}

-- no number is a member of the empty set
abbrev pub EmptyHasNone : Type 0
EmptyHasNone = (size number : ℕ) → has (replicate size false) number ≡ false

-- a number that was inserted is a member, one that was removed is none
abbrev pub SetIsHad : Type 0
SetIsHad = (set : List Bool) (number : ℕ) (value : Bool) → number < length set → has (slice_set set number value) number ≡ value

-- and the other numbers stay what they were
abbrev pub OthersStay : Type 0
OthersStay = (set : List Bool) (number other : ℕ) (value : Bool) → other ≢ number → has (slice_set set number value) other ≡ has set other

-- a member of a union is one of either set
abbrev pub UnionHasEither : Type 0
UnionHasEither = (first second : List Bool) (number : ℕ) → length first ≡ length second
    → has (union first second) number ≡ (has first number || has second number)

-- a set that a union leaves as it is has the members of the other
abbrev pub SettledHasBoth : Type 0
SettledHasBoth = (first second : List Bool) (number : ℕ) → length first ≡ length second → union first second ≡ first
    → has second number ≡ true → has first number ≡ true

-- sets of one size with the same members are the same
abbrev pub SameByMembers : Type 0
SameByMembers = (first second : List Bool) → length first ≡ length second
    → ((number : ℕ) → number < length first → has first number ≡ has second number) → first ≡ second

-- a set has at most as many members as its size
abbrev pub CountIsBounded : Type 0
CountIsBounded = (set : List Bool) → member_count set ≤ length set

-- the members are the numbers that the set has
abbrev pub MembersAreHad : Type 0
MembersAreHad = (set : List Bool) (number : ℕ) → Contains (members set) number ↔ (has set number ≡ true)

-- each member is below the next
abbrev pub MembersAscend : Type 0
MembersAscend = (set : List Bool) → IsStrictlyIncreasing (members set)
