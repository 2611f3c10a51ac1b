-- Which locals are made 0 before formals take their values, and which behind them.
use Rattle.std.specs.Prelude.{Bool, true, false, List, [], ◌∷◌, ◌++◌, is_some}
use Rattle.cmm_chain.specs.declared.frame.Location.{Location}
use Rattle.cmm_select.specs.declared.destination.Destination.{Destination}
use Rattle.cmm_select.specs.declared.destination.Destination.TheVariants.{Place}
use Rattle.cmm_calls.specs.inside.Arriving.{is_stored, last_to, register_of}

-- slots before, and behind them registers that no formal has
abbrev pub is_zeroed_in : Bool → List Destination → Location → Bool
is_zeroed_in true formals place = is_stored (Place place)
is_zeroed_in false formals place = is_some (last_to (register_of (Place place)) formals)

abbrev pub zeroed_one : Bool → List Destination → Location → List Location
zeroed_one slots formals place = elim (is_zeroed_in slots formals place) [ true ↦ place ∷ [] | false ↦ [] ]

abbrev pub zeroed_in : Bool → List Destination → List Location → List Location
zeroed_in slots formals [] = []
zeroed_in slots formals (place ∷ places) = zeroed_one slots formals place ++ zeroed_in slots formals places
