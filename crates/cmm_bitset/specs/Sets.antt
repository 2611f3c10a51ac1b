-- Sets of numbers below a size: one truth value a number, true for the members.
use Rattle.std.specs.Prelude.{ℕ, ◌-◌, ◌||◌, Bool, false, List, length, map, filter, zip, slice_index_or}
use Rattle.std.specs.List.{range_with_len}

-- whether a number is a member; from the size on none is
abbrev pub has : List Bool → ℕ → Bool
has set number = slice_index_or set number false

-- what is in either of two sets of one size
abbrev pub union : List Bool → List Bool → List Bool
union first second = map (λ pair. pair.0 || pair.1) (zip first second)

-- the members from a number on, in ascending order
abbrev pub members_from : List Bool → ℕ → List ℕ
members_from set from = filter (has set) (range_with_len from (length set - from))

-- all members, in ascending order
abbrev pub members : List Bool → List ℕ
members set = members_from set 0

-- how many members there are
abbrev pub member_count : List Bool → ℕ
member_count set = length (filter (λ is_member. is_member) set)
