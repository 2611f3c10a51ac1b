-- The bytes of version 1 before a place of a variable at a site, which are written to be counted.
use Rattle.std.specs.Prelude.{ℕ, List, [], ◌++◌, flat_map, take, slice_get, Option, Some, None}
use Rattle.cmm_image.specs.declared.parts.ImageParts.{ImageParts}
use Rattle.cmm_image.specs.declared.rows.SiteRow.{SiteRow}
use Rattle.cmm_format.specs.Formats.{number_bytes}
use Rattle.cmm_image.specs.ImageFormat.{procedure, site}
use Rattle.cmm_image.specs.Places.{place_bytes}
use Rattle.cmm_image.specs.WholeImage.{header_bytes}
use Rattle.cmm_image.specs.inside.Spellings.{exits, site_head}

-- what a site has before its places
abbrev pub site_front : SiteRow → List ℕ
site_front s = number_bytes 8 s.return_address ++ (number_bytes 4 s.procedure ++ (site_head s ++ exits s))

-- and before the place of a variable
abbrev pub in_site : ℕ → Option SiteRow → List ℕ
in_site v None = []
in_site v (Some s) = site_front s ++ flat_map place_bytes (take v s.variables)

abbrev pub tables_front : ImageParts → List ℕ
tables_front i = i.code ++ (i.initial ++ flat_map (procedure 0 None).spelled i.procs)

abbrev pub front_of : ImageParts → List ℕ
front_of i = header_bytes i ++ tables_front i

-- all bytes before that place at the site of a number
abbrev pub before_place : ImageParts → ℕ → ℕ → List ℕ
before_place i k v = front_of i ++ (flat_map (site 0 [] None).spelled (take k i.sites) ++ in_site v (slice_get i.sites k))
