-- What `exec` promises: the units in the files are built, and their image runs with the client's script; or there is a cause why not.
use Rattle.std.specs.Prelude.{◌≡◌, ◌⊎◌, ◌++◌, ℕ, List, Option, Some}
use Rattle.cmm_command.specs.declared.command.RunLimits.{RunLimits}
use Rattle.cmm_compile.specs.Agreement.{Agree}
use Rattle.cmm_image.specs.declared.parts.ImageParts.{ImageParts}
use Rattle.cmm_script.specs.declared.script.Script.{Script}
use Rattle.cmm_work.specs.Files.{HasUnits}
use Rattle.cmm_work.specs.Script.{HasScript, HoldsNoScript, named_file}
use Rattle.cmm_top.specs.Units.{HaveNoImage}
use Rattle.cmm_work.specs.Work.{Ran, Work}

-- an image agrees with the units, and has run with the script
pub record HasRun (names : List (List ℕ)) (client : Option (List ℕ)) (limits : RunLimits) (w : Work) : Type 0 where
  pub image : ImageParts
  pub is_image : w.image ≡ Some image
  pub agrees : HasUnits w.before.files names (λ units. Agree units image)
  pub script : Script
  pub has_script : HasScript w.before.files client script
  pub ran : Ran w w.before.streams image script limits

-- an image agrees with the units, and the file of the client holds no script
pub record HasBadScript (names : List (List ℕ)) (client : Option (List ℕ)) (w : Work) : Type 0 where
  pub image : ImageParts
  pub agrees : HasUnits w.before.files names (λ units. Agree units image)
  pub bad : HoldsNoScript client w

-- there is nothing to run: the units have no image, or the file of the client holds no script
abbrev pub CannotRun : List (List ℕ) → Option (List ℕ) → Work → Type 0
CannotRun names client w = HasBadScript names client w ⊎ HaveNoImage names (names ++ named_file client) w

abbrev pub Executes : List (List ℕ) → Option (List ℕ) → RunLimits → Work → Type 0
Executes names client limits w = HasRun names client limits w ⊎ CannotRun names client w
