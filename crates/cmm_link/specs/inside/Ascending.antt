-- Rows of sites by their return addresses.
use Rattle.std.specs.Prelude.{◌==◌, Bool}
use Rattle.std.specs.Ordering.{is_lt, nat_cmp}
use Rattle.cmm_image.specs.declared.rows.SiteRow.{SiteRow}

abbrev pub has_lower_address : SiteRow → SiteRow → Bool
has_lower_address a b = is_lt (nat_cmp a.return_address b.return_address)

abbrev pub same_address : SiteRow → SiteRow → Bool
same_address a b = a.return_address == b.return_address
