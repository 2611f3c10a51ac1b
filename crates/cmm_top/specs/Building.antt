-- What `build` promises: the image of the units in the files is written to a file; or there is a cause why not, and that file is as it was or holds a front of the bytes.
use Rattle.std.specs.Prelude.{◌⊎◌, ℕ, List, Option}
use Rattle.cmm_compile.specs.Agreement.{Agree}
use Rattle.cmm_image.specs.declared.parts.ImageParts.{ImageParts}
use Rattle.cmm_image.specs.Images.{SpellsImage}
use Rattle.cmm_outside.specs.Storage.{Contents}
use Rattle.cmm_work.specs.Files.{HasUnits}
use Rattle.cmm_top.specs.Units.{HaveNoImage}
use Rattle.cmm_work.specs.Work.{Work}
use Rattle.cmm_work.specs.Writing.{FailsToWrite, HasWritten}

-- these bytes are those of an image that agrees with the units
pub record IsBuiltOf (contents : Option Contents) (names : List (List ℕ)) (bytes : List ℕ) : Type 0 where
  pub image : ImageParts
  pub agrees : HasUnits contents names (λ units. Agree units image)
  pub spelled : SpellsImage bytes image

-- the file of this name holds the bytes of an image now
abbrev pub HasBuilt : List (List ℕ) → List ℕ → Work → Type 0
HasBuilt names name w = HasWritten (IsBuiltOf w.before.files names) name w

abbrev pub Builds : List (List ℕ) → List ℕ → Work → Type 0
Builds names name w = HasBuilt names name w ⊎ (FailsToWrite (IsBuiltOf w.before.files names) name w ⊎ HaveNoImage names names w)
