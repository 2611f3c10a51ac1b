-- Sites in the order of their return addresses.
use Rattle.std.specs.Prelude.{ℕ, ◌<◌, ◌≤◌, List, length, slice_index_or}
use Rattle.cmm_image.specs.declared.rows.SiteRow.{SiteRow}
use Rattle.cmm_image.specs.Sites.{no_site}

-- the return address of the site at a place
abbrev pub address_at : List SiteRow → ℕ → ℕ
address_at sites k = (slice_index_or sites k no_site).return_address

-- the return address of each site is below those of all later ones
abbrev pub Ascend : List SiteRow → Type 0
Ascend sites = (a b : ℕ) → a < b → b < length sites → address_at sites a < address_at sites b

-- a search by halves has come so far: the site that it looks for is not before one place and not from another one on
pub record Halves (sites : List SiteRow) (address low high : ℕ) : Type 0 where
  pub ordered : low ≤ high
  pub inside : high ≤ length sites
  pub before : (k : ℕ) → k < low → address_at sites k < address
  pub behind : (k : ℕ) → high ≤ k → k < length sites → address < address_at sites k
