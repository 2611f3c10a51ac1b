-- Which images of version 1 have a spelling in version 2: those in which each variable has one place in its whole procedure. Where one has another
-- place at a later site, and where that place stands in the bytes of version 1.
use Rattle.std.specs.Prelude.{◌≡◌, ℕ, ◌+◌, ◌*◌, ◌<◌, ◌==◌, ◌&&◌, not, Bool, true, false, List, ◌++◌, length, take, slice_get, slice_index_or, flat_map, Option, Some, None}
use Rattle.std.specs.List.{list_any}
use Rattle.cmm_image.specs.declared.parts.ImageParts.{ImageParts}
use Rattle.cmm_image.specs.declared.rows.SiteRow.{SiteRow}
use Rattle.cmm_image.specs.declared.rows.VariablePlace.{VariablePlace}
use Rattle.cmm_image.specs.declared.rows.VariablePlace.TheVariants.{Dead, Slot, Register}
use Rattle.cmm_image.specs.ImageFormat.{first_tables, procedure, site}
use Rattle.cmm_image.specs.Places.{place_bytes}
use Rattle.cmm_image.specs.WholeImage.{header_bytes}

-- two places of a variable agree: it is dead at one of them, or they are the same place
abbrev pub agree : VariablePlace → VariablePlace → Bool
agree Dead q = true
agree (Slot m) Dead = true
agree (Slot m) (Slot n) = m == n
agree (Slot m) (Register r) = false
agree (Register r) Dead = true
agree (Register r) (Slot n) = false
agree (Register r) (Register s) = r == s

-- the place of a variable at a site: none where the site has no such variable
abbrev pub place_of : ℕ → SiteRow → VariablePlace
place_of v s = slice_index_or s.variables v Dead

-- the variable v is live at both sites, which are of one procedure, in different places
abbrev pub has_moved : ℕ → SiteRow → SiteRow → Bool
has_moved v s t = (s.procedure == t.procedure) && not (agree (place_of v s) (place_of v t))

abbrev pub differs_from : List SiteRow → ℕ → Option SiteRow → Bool
differs_from earlier v None = false
differs_from earlier v (Some t) = list_any (λ s. has_moved v s t) earlier

-- at the site of a number the variable v has another place than at an earlier site of the same procedure
abbrev pub differs : List SiteRow → ℕ → ℕ → Bool
differs sites k v = differs_from (take k sites) v (slice_get sites k)

-- each variable has one place in its whole procedure
abbrev pub HaveOnePlace : List SiteRow → Type 0
HaveOnePlace sites = (k v : ℕ) → differs sites k v ≡ false

-- the first site at which a variable has another place than before, and the first such variable there
pub record IsFirstDifference (sites : List SiteRow) (k v : ℕ) : Type 0 where
  pub here : differs sites k v ≡ true
  pub earlier : (j u : ℕ) → j < k → differs sites j u ≡ false
  pub lower : (u : ℕ) → u < v → differs sites k u ≡ false

-- ---- where a place stands

-- of a site in version 1, the bytes of all fields before the first place
abbrev pub bytes_before_places : SiteRow → ℕ
bytes_before_places s = 24 + length s.results + 2 * length s.returns + 10 * length s.unwinds + 2 * length s.cuts

abbrev pub bytes_to_place : ℕ → Option SiteRow → ℕ
bytes_to_place v None = 0
bytes_to_place v (Some s) = bytes_before_places s + length (flat_map place_bytes (take v s.variables))

-- what version 1 spells of an image, up to its exported labels
abbrev pub first_front : ImageParts → List ℕ
first_front i = header_bytes i ++ (i.code ++ (i.initial ++ (first_tables (length i.code) (length i.procs) (length i.sites)).spelled (i.procs, i.sites)))

-- the offset, in the bytes of version 1, of the place of the variable v at the site of a number
abbrev pub place_offset : ImageParts → ℕ → ℕ → ℕ
place_offset i k v =
    length (header_bytes i) + length i.code + length i.initial
    + length (flat_map (procedure (length i.code) None).spelled i.procs)
    + length (flat_map (site (length i.code) i.procs None).spelled (take k i.sites))
    + bytes_to_place v (slice_get i.sites k)
