-- What `elf` and `migrate` promise: the ELF file of the image in the file, or the same image in version 2, is written to another; or there is a cause why not, and that
-- one is as it was or holds a front of the bytes.
use Rattle.std.specs.Prelude.{◌⊎◌, ℕ, List, [], ◌∷◌, Option}
use Rattle.cmm_elf.specs.ElfFiles.{SpellsElf, segments_of}
use Rattle.cmm_image.specs.declared.parts.ImageParts.{ImageParts}
use Rattle.cmm_image.specs.Images.{IsFirstFault, SpellsImage}
use Rattle.cmm_image.specs.Migrating.{IsFault, IsMigrated}
use Rattle.cmm_outside.specs.Storage.{Contents}
use Rattle.cmm_rules.specs.declared.rule.Rule.{Rule}
use Rattle.cmm_work.specs.Files.{FailsToRead, HasBytes}
use Rattle.cmm_work.specs.Running.{IsRefusedFor}
use Rattle.cmm_work.specs.Work.{RanOutOfMemory, Work}
use Rattle.cmm_work.specs.Writing.{FailsToWrite, HasWritten}

-- these bytes are made of those that the file holds
abbrev pub IsMadeOf : (List ℕ → List ℕ → Type 0) → Option Contents → List ℕ → List ℕ → Type 0
IsMadeOf Are contents name bytes = HasBytes contents name (λ read. Are read bytes)

-- there is nothing of which bytes could be made: what the file holds has a fault
abbrev pub HoldsNone : (List ℕ → Rule → ℕ → Type 0) → List ℕ → Work → Type 0
HoldsNone Fault name w = IsRefusedFor Fault name w ⊎ (FailsToRead (name ∷ []) w ⊎ RanOutOfMemory w)

abbrev pub Makes : (List ℕ → List ℕ → Type 0) → (List ℕ → Rule → ℕ → Type 0) → List ℕ → List ℕ → Work → Type 0
Makes Are Fault name file w =
    HasWritten (IsMadeOf Are w.before.files name) file w ⊎ (FailsToWrite (IsMadeOf Are w.before.files name) file w ⊎ HoldsNone Fault name w)

-- ---- an ELF file

-- the first are an image, and the others spell the ELF file of its code, its data and its start
pub record IsElfOf (read bytes : List ℕ) : Type 0 where
  pub image : ImageParts
  pub is_image : SpellsImage read image
  pub spelled : SpellsElf bytes (segments_of image)

abbrev pub Converts : List ℕ → List ℕ → Work → Type 0
Converts name file w = Makes IsElfOf IsFirstFault name file w

-- ---- version 2

abbrev pub Migrates : List ℕ → List ℕ → Work → Type 0
Migrates name file w = Makes IsMigrated IsFault name file w
