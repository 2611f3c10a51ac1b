use Rattle.std.proofs.Common.{◌≡◌, ◌++◌, length, flat_map, take}
use Rattle.cmm_format.specs.Formats.{number_bytes}
use Rattle.cmm_image.specs.inside.SecondSpellings.{live_site_bytes, read_all}
use Rattle.cmm_image.proofs.second_bytes.put_live_sites.Given as goal

abbrev pub invariant-loop-site : goal.invariant-loop-site
invariant-loop-site l =
    l.out.items ≡ l.fn.out.items ++ (number_bytes 4 (length (read_all l.sites)) ++ flat_map (live_site_bytes l.variables) (read_all (take l.site-index l.sites)))
