-- Sites of an image by their return addresses and by their numbers.
use Rattle.std.specs.Prelude.{ℕ, ◌==◌, Bool, false, List, [], position, slice_get, Option, Some, None}
use Rattle.cmm_image.specs.declared.rows.SiteRow.{SiteRow}

abbrev pub returns_to : ℕ → SiteRow → Bool
returns_to address s = s.return_address == address

-- the place of the site with a return address
abbrev pub site_place : List SiteRow → ℕ → Option ℕ
site_place sites address = position (returns_to address) sites

-- the site of a number; of a number that none has, one without anything
abbrev pub no_site : SiteRow
no_site = record {
  return_address = 0;
  procedure = 0;
  number = 0;
  never_returns = false;
  aborts = false;
  yield_values = None;
  results = [];
  returns = [];
  unwinds = [];
  cuts = [];
  variables = [];
  spans = [];
}

abbrev pub or_no_site : Option SiteRow → SiteRow
or_no_site (Some s) = s
or_no_site None = no_site

abbrev pub site_numbered : List SiteRow → ℕ → SiteRow
site_numbered sites n = or_no_site (slice_get sites n)
