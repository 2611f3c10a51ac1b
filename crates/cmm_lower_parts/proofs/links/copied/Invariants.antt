use Rattle.std.proofs.Common.{◌≡◌, map, take}
use Rattle.cmm_lower_parts.proofs.links.copied.Given as goal

abbrev pub invariant-loop-name : goal.invariant-loop-name
invariant-loop-name l = l.copies ≡ map (λ n. n.now) (take l.name-index l.names)
