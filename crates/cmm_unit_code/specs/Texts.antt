-- What the code of a program is, as it stands in an image.
use Rattle.std.specs.Prelude.{◌≡◌, ◌+◌, ◌*◌, ◌&&◌, nat_lt, Bool, true, IsTrue, ℕ, List, [], ◌∷◌, length, slice_get, Option, Some, None}
use Rattle.std.specs.List.{AllZip, list_all}
use Rattle.cmm_program.specs.declared.procedure.Proc.{Proc}
use Rattle.cmm_program.specs.declared.procedure.Site.{Site}
use Rattle.cmm_program.specs.declared.program.Program.{Program}
use Rattle.cmm_image.specs.ImageFormat.{is_code_length, is_in_code}
use Rattle.cmm_unit_code.specs.declared.text.Text.{Text}

-- each address above the one before
abbrev pub ascend_above : ℕ → List ℕ → Bool
ascend_above previous [] = true
ascend_above previous (address ∷ addresses) = nat_lt previous address && ascend_above address addresses

-- a landing for each continuation of a procedure
abbrev pub HasLandings : Proc → List ℕ → Type 0
HasLandings q landings = length landings ≡ length q.conts

-- the address of a landing or of a site, by the number of its procedure and its own, among those of all procedures
abbrev pub address_in : List (List ℕ) → ℕ → ℕ → Option ℕ
address_in all q n = elim (slice_get all q) [ Some addresses ↦ slice_get addresses n | None ↦ None ]

-- no two sites have the same
abbrev pub AreDistinct : List (List ℕ) → Type 0
AreDistinct sites = (q r m n address : ℕ) → address_in sites q m ≡ Some address → address_in sites r n ≡ Some address → (q ≡ r) × (m ≡ n)

-- the return address of a site: it lies in code of so many bytes, and so does that behind a word for each alternate exit
abbrev pub IsSiteAt : ℕ → Site → ℕ → Type 0
IsSiteAt size site address = IsTrue (is_in_code size address) × IsTrue (is_in_code size (address + 4 * length site.returns))

-- one for each site of a procedure
abbrev pub HasSitesAt : ℕ → Proc → List ℕ → Type 0
HasSitesAt size q addresses = AllZip (IsSiteAt size) q.sites addresses

-- The code has a length that code may have, and each address is one in it: that of the start, that behind the call of main, one for each procedure,
-- in ascending order, one for each continuation of each, and one for each site of each, of which no two are the same. Behind that of a site there is room
-- for its exits.
pub record IsText (p : Program) (t : Text) : Type 0 where
  pub size : IsTrue (is_code_length (length t.code))
  pub start : IsTrue (is_in_code (length t.code) t.start)
  pub last : IsTrue (is_in_code (length t.code) t.last)
  pub count : length t.procedures ≡ length p.procs
  pub procedures : IsTrue (list_all (is_in_code (length t.code)) t.procedures)
  pub ascending : IsTrue (ascend_above 0 t.procedures)
  pub counts : AllZip HasLandings p.procs t.landings
  pub landings : IsTrue (list_all (list_all (is_in_code (length t.code))) t.landings)
  pub sites : AllZip (HasSitesAt (length t.code)) p.procs t.sites
  pub distinct : AreDistinct t.sites
