use Rattle.std.proofs.Common.{◌≡◌, map, take}
use Rattle.cmm_emit.specs.Finishing.{places_at}
use Rattle.cmm_emit.proofs.finishing.sites_of.Given as goal

-- those of the procedures so far
abbrev pub invariant-loop-context : goal.invariant-loop-context
invariant-loop-context l = l.found ≡ map (λ c. places_at l.places c.sites) (take l.context-index l.contexts)
