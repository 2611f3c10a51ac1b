use Rattle.std.proofs.Common.{◌≡◌, [], replicate}
use Rattle.cmm_image.proofs.second_bytes.no_sites.Given as goal

abbrev pub invariant-loop : goal.invariant-loop
invariant-loop l = l.owned.items ≡ replicate l.counter []
