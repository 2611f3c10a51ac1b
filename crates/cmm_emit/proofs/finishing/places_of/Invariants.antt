use Rattle.std.proofs.Common.{◌≡◌, take}
use Rattle.cmm_emit.specs.Finishing.{places_at}
use Rattle.cmm_emit.proofs.finishing.places_of.Given as goal

-- those of the labels so far
abbrev pub invariant-loop-label : goal.invariant-loop-label
invariant-loop-label l = l.found ≡ places_at l.places (take l.label-index l.labels)
