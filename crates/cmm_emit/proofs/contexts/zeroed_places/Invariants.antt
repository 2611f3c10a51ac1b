use Rattle.std.proofs.Common.{◌≡◌, map, take}
use Rattle.cmm_emit.specs.Contexts.{place_in}
use Rattle.cmm_emit.proofs.contexts.zeroed_places.Given as goal

-- those of the locals so far
abbrev pub invariant-loop-local : goal.invariant-loop-local
invariant-loop-local l = l.zeroed ≡ map (place_in l.places) (take l.local-index l.local-items)
