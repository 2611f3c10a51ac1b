use Rattle.std.proofs.Common.{take}
use Rattle.cmm_image.specs.inside.SecondSpellings.{AreOwned}
use Rattle.cmm_image.proofs.second_bytes.owned_sites.Given as goal

abbrev pub invariant-loop-site : goal.invariant-loop-site
invariant-loop-site l = AreOwned l.procedures l.owned.items (take l.site-index l.sites)
