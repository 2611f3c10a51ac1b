-- The walk that an event shows has values that fit their widths.
use Rattle.std.specs.Prelude.{◌^◌, nat_lt, ℕ, Bool, true, List, Option, Some, None}
use Rattle.std.specs.List.{list_all}
use Rattle.cmm_script.specs.Walk.{Shown, Activation}
use Rattle.cmm_simulation.specs.Seen.{Event, Input, Client, End}
use Rattle.cmm_machine_laws.specs.Observed.{Call, Ending}

abbrev pub value_fits : ℕ → Option ℕ → Bool
value_fits width (Some n) = nat_lt n (2 ^ width)
value_fits width None = true

abbrev pub fits_shown : Shown → Bool
fits_shown v = value_fits v.width v.value

abbrev pub walk_fits : List Activation → Bool
walk_fits walk = list_all (λ a. list_all fits_shown a.variables) walk

abbrev pub may_fit : Option (List Activation) → Bool
may_fit (Some walk) = walk_fits walk
may_fit None = true

-- the test of events
abbrev pub event_fits : Event Call Ending → Bool
event_fits Input = true
event_fits (Client call) = may_fit call.walk
event_fits (End ending) = may_fit ending.walk
