-- What a set of extents says of others: whether they meet any of it.
use Rattle.std.specs.Prelude.{ℕ, ◌||◌, nat_lt, Bool, List, ◌++◌, map}
use Rattle.std.specs.List.{list_all}
use Rattle.cmm_static_semantics.specs.Switches.{Extent}
use Rattle.cmm_check_procedure.specs.declared.extent.Extent.{Extent as Kept}
use Rattle.cmm_check_procedure.specs.declared.extents.Extents.{Extents}

abbrev pub shown : Kept → Extent
shown x = record { low = x.low; high = x.high }

-- two extents have no number in common
abbrev pub are_apart : Extent → Extent → Bool
are_apart e x = nat_lt x.high e.low || nat_lt e.high x.low

-- one has no number in common with any of others
abbrev pub meets_none_of : List Extent → Extent → Bool
meets_none_of es x = list_all (λ e. are_apart e x) es

abbrev pub pair_extent : ℕ × ℕ → Extent
pair_extent p = record { low = p.0; high = p.1 }

-- the extents of a set, in no particular order
abbrev pub extents_of : Extents → List Extent
extents_of s = map pair_extent s.sorted.entries ++ map shown s.others
