-- What the migration of an image makes of its bytes: the bytes of version 2 of the same image, or why there are none.
use Rattle.std.specs.Prelude.{◌≡◌, ℕ, ◌⊎◌, ◌<◌, List, length}
use Rattle.cmm_rules.specs.declared.rule.Rule.{Rule}
use Rattle.cmm_rules.specs.declared.rule.Rule.TheVariants.{OtherImageVersion, ImageTooLong, TwoPlaces}
use Rattle.cmm_image.specs.declared.fault.ImageFault.{ImageFault}
use Rattle.cmm_image.specs.declared.fault.ImageFault.TheVariants.{At, Memory}
use Rattle.cmm_image.specs.declared.parts.ImageParts.{ImageParts}
use Rattle.cmm_image.specs.declared.reading.TheConstants.{IMAGE_LIMIT}
use Rattle.cmm_image.specs.WholeImage.{image}
use Rattle.cmm_image.specs.Images.{IsFirstFault, SpellsImage}
use Rattle.cmm_image.specs.Migration.{HaveOnePlace, IsFirstDifference, place_offset}

-- an image in a version of the format
abbrev pub in_version : ℕ → ImageParts → ImageParts
in_version version i = record {
  version = version;
  code = i.code;
  initial = i.initial;
  start = i.start;
  last = i.last;
  main = i.main;
  procs = i.procs;
  sites = i.sites;
  labels = i.labels;
  globals = i.globals;
}

-- these bytes are an image in version 1, and those are the same image in version 2
pub record IsMigrated (from to : List ℕ) : Type 0 where
  pub parts : ImageParts
  pub first : SpellsImage from (in_version 1 parts)
  pub second : SpellsImage to (in_version 2 parts)

-- ---- why an image is not migrated

-- it has version 2 already, which stands at 4
pub record IsSecondAlready (i : ImageParts) (rule : Rule) (offset : ℕ) : Type 0 where
  pub version : i.version ≡ 2
  pub rule_is : rule ≡ OtherImageVersion
  pub offset_is : offset ≡ 4

-- a variable has another place than before, at the offset of the first such
pub record HasTwoPlaces (i : ImageParts) (rule : Rule) (offset : ℕ) : Type 0 where
  pub version : i.version ≡ 1
  pub site : ℕ
  pub variable : ℕ
  pub first : IsFirstDifference i.sites site variable
  pub rule_is : rule ≡ TwoPlaces
  pub offset_is : offset ≡ place_offset i site variable

-- it would have more bytes than an image may
pub record IsTooLong (i : ImageParts) (rule : Rule) (offset : ℕ) : Type 0 where
  pub version : i.version ≡ 1
  pub one_place : HaveOnePlace i.sites
  pub long : IMAGE_LIMIT < length (image.spelled (in_version 2 i))
  pub rule_is : rule ≡ ImageTooLong
  pub offset_is : offset ≡ IMAGE_LIMIT

abbrev pub IsNotMigrated : ImageParts → Rule → ℕ → Type 0
IsNotMigrated i rule offset = IsSecondAlready i rule offset ⊎ (HasTwoPlaces i rule offset ⊎ IsTooLong i rule offset)

-- what is said to be wrong is why the image is not migrated
abbrev pub IsNotMigratedFor : ImageParts → ImageFault → Type 0
IsNotMigratedFor i (At rule offset) = IsNotMigrated i rule offset
IsNotMigratedFor i Memory = Unit {0}

-- bytes that are an image which is not migrated
pub record AreNotMigrated (bytes : List ℕ) (rule : Rule) (offset : ℕ) : Type 0 where
  pub parts : ImageParts
  pub spelled : SpellsImage bytes parts
  pub not_migrated : IsNotMigrated parts rule offset

-- why bytes are not migrated: they are no image, or one that is not
abbrev pub IsFault : List ℕ → Rule → ℕ → Type 0
IsFault bytes rule offset = IsFirstFault bytes rule offset ⊎ AreNotMigrated bytes rule offset

-- what is said to be wrong is so, or memory ran out
abbrev pub MigrationFaultAt : List ℕ → ImageFault → Type 0
MigrationFaultAt bytes (At rule offset) = IsFault bytes rule offset
MigrationFaultAt bytes Memory = Unit {0}

-- ---- answers

abbrev pub IsWantOfMemory : ImageFault → Type 0
IsWantOfMemory (At rule offset) = ⊥
IsWantOfMemory Memory = Unit {0}

abbrev pub IsFaultOrMemory : Rule → ℕ → ImageFault → Type 0
IsFaultOrMemory rule offset (At r o) = (r ≡ rule) × (o ≡ offset)
IsFaultOrMemory rule offset Memory = Unit {0}
