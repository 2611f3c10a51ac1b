use Rattle.std.proofs.Common.{◌≡◌, drop}
use Rattle.cmm_image.specs.SecondFormat.{places_among, places_with}
use Rattle.cmm_image.specs.inside.SecondSpellings.{read_all}
use Rattle.cmm_image.proofs.second_bytes.places_among.Given as goal

abbrev pub invariant-loop-site : goal.invariant-loop-site
invariant-loop-site l = places_with l.places.items (read_all (drop l.site-index l.sites)) ≡ places_among l.variables (read_all l.sites)
