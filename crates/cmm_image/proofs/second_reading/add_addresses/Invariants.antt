use Rattle.std.proofs.Common.{◌≡◌, ◌++◌, map, take}
use Rattle.cmm_image.proofs.second_reading.add_addresses.Given as goal

abbrev pub invariant-loop-site : goal.invariant-loop-site
invariant-loop-site l = l.to.keys ≡ l.initial.to.keys ++ map (λ s. s.return_address) (take l.site-index l.sites)
