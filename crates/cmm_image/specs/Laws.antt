-- What holds of all bytes, and of all images.
use Rattle.std.specs.Prelude.{◌≡◌, ℕ, ◌⊎◌, ◌+◌, ◌*◌, ◌++◌, ◌<◌, ◌≤◌, ◌^◌, true, IsTrue, List, drop, length, slice_get, sum_by, Some, Ok}
use Rattle.std.specs.List.{All}
use Rattle.cmm_rules.specs.declared.rule.Rule.{Rule}
use Rattle.cmm_image.specs.declared.parts.ImageParts.{ImageParts}
use Rattle.cmm_image.specs.declared.rows.SiteRow.{SiteRow}
use Rattle.cmm_image.specs.declared.rows.VariablePlace.{VariablePlace}
use Rattle.cmm_format.specs.Formats.{AreBytes}
use Rattle.cmm_image.specs.ImageFormat.{Tables, first_tables, procedure_at}
use Rattle.cmm_image.specs.SecondFormat.{is_live, second_tables}
use Rattle.cmm_image.specs.InFrames.{KeepsFrame}
use Rattle.cmm_image.specs.Migration.{HaveOnePlace, IsFirstDifference, differs, first_front, place_offset}
use Rattle.cmm_image.specs.Places.{place_bytes}
use Rattle.cmm_image.specs.Bounds.{BoundsRows}
use Rattle.cmm_image.specs.Images.{IsImage, SpellsImage, IsFirstFault}
use Rattle.cmm_image.specs.Migrating.{in_version}

-- bytes are an image, or they have a first fault
abbrev pub EachMeansOneThing : Type 0
EachMeansOneThing = (bytes : List ℕ) → AreBytes bytes → ((i : ImageParts) × SpellsImage bytes i) ⊎ ((rule : Rule) × (offset : ℕ) × IsFirstFault bytes rule offset)

-- bytes are at most one image
abbrev pub ImagesAreOne : Type 0
ImagesAreOne = (bytes : List ℕ) (i j : ImageParts) → SpellsImage bytes i → SpellsImage bytes j → i ≡ j

-- the bytes of an image have no fault
abbrev pub NoImageHasAFault : Type 0
NoImageHasAFault = (bytes : List ℕ) (i : ImageParts) (rule : Rule) (offset : ℕ) → SpellsImage bytes i → IsFirstFault bytes rule offset → ⊥

-- each site of an image keeps inside the frame of its procedure
abbrev pub SitesKeepFrames : Type 0
SitesKeepFrames = (i : ImageParts) → IsImage i → All (λ s. KeepsFrame (procedure_at i.procs s.procedure) s) i.sites

-- the rows of every image are bounded
abbrev pub RowsAreBounded : Type 0
RowsAreBounded = (i : ImageParts) → IsImage i → BoundsRows i

-- what version 2's tables spell is read as they are, whatever follows; and what is read is spelled so
pub record SecondTablesAreRead : Type 0 where
  pub again : (code_length procedures sites : ℕ) (t : Tables) (rest : List ℕ) → (second_tables code_length procedures sites).Holds t →
      (second_tables code_length procedures sites).at ((second_tables code_length procedures sites).spelled t ++ rest) ≡ Ok (t, rest)
  pub taken : (code_length procedures sites : ℕ) (bytes : List ℕ) (t : Tables) (rest : List ℕ) → AreBytes bytes →
      (second_tables code_length procedures sites).at bytes ≡ Ok (t, rest) →
      (bytes ≡ (second_tables code_length procedures sites).spelled t ++ rest) × (second_tables code_length procedures sites).Holds t

-- what version 2's tables keep, version 1's keep, field by field
abbrev pub SecondKeepsFirst : Type 0
SecondKeepsFirst = (code_length procedures sites : ℕ) (t : Tables) → 1 ≤ procedures → procedures ≤ 65535 → (second_tables code_length procedures sites).Holds t →
    (first_tables code_length procedures sites).Holds t

-- what version 1's tables keep, those of version 2 keep where each variable has one place in its procedure
abbrev pub FirstKeepsSecond : Type 0
FirstKeepsSecond = (code_length procedures sites : ℕ) (t : Tables) → sites < 2 ^ 32 → (first_tables code_length procedures sites).Holds t → HaveOnePlace t.1 →
    (second_tables code_length procedures sites).Holds t

-- and nowhere else
abbrev pub SecondHasOnePlace : Type 0
SecondHasOnePlace = (code_length procedures sites : ℕ) (t : Tables) → (second_tables code_length procedures sites).Holds t → HaveOnePlace t.1

-- version 2 spells them in five bytes more than version 1 for each procedure and for each variable of one, or in fewer
abbrev pub SecondIsShort : Type 0
SecondIsShort = (code_length procedures sites : ℕ) (t : Tables) → (second_tables code_length procedures sites).Holds t →
    length ((second_tables code_length procedures sites).spelled t)
    ≤ length ((first_tables code_length procedures sites).spelled t) + sum_by (λ p. 5 + 5 * length p.variables) t.0

-- one image has one spelling a version
abbrev pub OneSpellingAVersion : Type 0
OneSpellingAVersion = (version : ℕ) (i : ImageParts) (bytes others : List ℕ) → SpellsImage bytes (in_version version i) → SpellsImage others (in_version version i) →
    bytes ≡ others

-- and no bytes are of both versions
abbrev pub NoBytesAreBoth : Type 0
NoBytesAreBoth = (bytes : List ℕ) (i j : ImageParts) → SpellsImage bytes (in_version 1 i) → SpellsImage bytes (in_version 2 j) → ⊥

-- of sites each variable has one place, or there is a first one with another place than before
abbrev pub OnePlaceOrDifference : Type 0
OnePlaceOrDifference = (sites : List SiteRow) → HaveOnePlace sites ⊎ ((k : ℕ) × (v : ℕ) × IsFirstDifference sites k v)

-- sites have one first difference at most
abbrev pub FirstDifferencesAreOne : Type 0
FirstDifferencesAreOne = (sites : List SiteRow) (j k u v : ℕ) → IsFirstDifference sites j u → IsFirstDifference sites k v → (j ≡ k) × (u ≡ v)

-- a variable that has another place than before has one
abbrev pub DifferencesAreLive : Type 0
DifferencesAreLive = (sites : List SiteRow) (k v : ℕ) → differs sites k v ≡ true →
    (s : SiteRow) × (p : VariablePlace) × (slice_get sites k ≡ Some s) × (slice_get s.variables v ≡ Some p) × IsTrue (is_live p)

-- at its offset in the bytes of version 1 stands the place of a variable at a site
abbrev pub PlacesStandThere : Type 0
PlacesStandThere = (i : ImageParts) (k v : ℕ) (s : SiteRow) (p : VariablePlace) (rest : List ℕ) → slice_get i.sites k ≡ Some s → slice_get s.variables v ≡ Some p →
    (more : List ℕ) × (drop (place_offset i k v) (first_front i ++ rest) ≡ place_bytes p ++ more)
