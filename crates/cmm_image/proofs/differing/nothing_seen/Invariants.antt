use Rattle.std.proofs.Common.{◌≡◌, [], map, replicate}
use Rattle.cmm_image.proofs.differing.nothing_seen.Given as goal

abbrev pub invariant-loop : goal.invariant-loop
invariant-loop l = map (λ places. places.items) l.seen.items ≡ replicate l.counter []
