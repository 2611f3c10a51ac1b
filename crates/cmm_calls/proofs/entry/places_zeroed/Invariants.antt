use Rattle.std.proofs.Common.{◌≡◌, ◌++◌, drop}
use Rattle.cmm_calls.specs.inside.Zeroing.{zeroed_in}
use Rattle.cmm_calls.proofs.entry.places_zeroed.Given as goal

-- those of the places so far, and then those of the others
abbrev pub invariant-loop-place : goal.invariant-loop-place
invariant-loop-place l = record { places : l.places ++ zeroed_in l.slots l.formals (drop l.place-index l.zeroed) ≡ zeroed_in l.slots l.formals l.zeroed }
