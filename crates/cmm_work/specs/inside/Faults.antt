-- Why what a file holds is not what was asked for.
use Rattle.std.specs.Prelude.{ℕ, List}
use Rattle.cmm_elf.specs.ElfFiles.{IsFirstFault as IsFirstElfFault}
use Rattle.cmm_image.specs.Images.{IsFirstFault as IsFirstImageFault}
use Rattle.cmm_image.specs.declared.parts.ImageParts.{ImageParts}
use Rattle.cmm_rules.specs.declared.rule.Rule.{Rule}
use Rattle.cmm_snapshot.specs.Snapshots.{IsFirstFault as IsFirstSnapshotFault}
use Rattle.cmm_work.specs.declared.ending.Ending.{Ending}
use Rattle.cmm_work.specs.declared.ending.Ending.TheVariants.{BadImage, BadSnapshot, BadElf, OutOfMemory}

-- which fault bytes have that should be an image
abbrev pub IsFaultIn : (List ℕ → Rule → ℕ → Type 0) → List ℕ → Ending → Type 0
IsFaultIn Fault bytes (BadImage rule offset) = Fault bytes rule offset
IsFaultIn Fault bytes OutOfMemory = Unit {0}
IsFaultIn Fault bytes _ = ⊥

-- why there is no image in bytes
abbrev pub IsNotImage : List ℕ → Ending → Type 0
IsNotImage bytes = IsFaultIn IsFirstImageFault bytes

-- why there is no snapshot of a run of an image in bytes
abbrev pub IsNotSnapshot : ImageParts → List ℕ → Ending → Type 0
IsNotSnapshot image bytes (BadSnapshot rule offset) = IsFirstSnapshotFault image bytes rule offset
IsNotSnapshot image bytes OutOfMemory = Unit {0}
IsNotSnapshot image bytes _ = ⊥

-- why bytes are no ELF file of an image
abbrev pub IsNotElf : List ℕ → Ending → Type 0
IsNotElf bytes (BadElf rule offset) = IsFirstElfFault bytes rule offset
IsNotElf bytes OutOfMemory = Unit {0}
IsNotElf bytes _ = ⊥
