-- Ranges of which each ends before the next begins.
use Rattle.std.specs.Prelude.{ℕ, ◌&&◌, nat_lt, nat_le, Bool, true, List, [], ◌∷◌}
use Rattle.std.specs.List.{list_all}

-- ranges by their first and last numbers, in the order of the first: none falls, and none meets another
abbrev pub are_in_order : List (ℕ × ℕ) → Bool
are_in_order [] = true
are_in_order (r ∷ rs) = nat_le r.0 r.1 && (list_all (λ s. nat_lt r.1 s.0) rs && are_in_order rs)
