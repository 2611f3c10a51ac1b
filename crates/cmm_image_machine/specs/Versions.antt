-- What an image does depends on its tables, and not on the version of the format in which they were read.
use Rattle.std.specs.Prelude.{◌≡◌, ℕ, List}
use Rattle.rv_table.specs.Machine.{State}
use Rattle.cmm_abi.specs.Regions.{Region}
use Rattle.cmm_script.specs.declared.script.Script.{Script}
use Rattle.cmm_image.specs.declared.parts.ImageParts.{ImageParts}
use Rattle.cmm_image.specs.Images.{SpellsImage}
use Rattle.cmm_image.specs.Migrating.{IsMigrated, in_version}
use Rattle.cmm_image_machine.specs.Machine.{image_after, launch_of}
use Rattle.cmm_image_machine.specs.Walks.{chain_walk}

-- the same runs, of every length
abbrev pub VersionsRunSo : Type 0
VersionsRunSo = (v w : ℕ) (i : ImageParts) (script : Script) (stack : ℕ) (input : List ℕ) (n : ℕ) →
    image_after (launch_of (in_version v i) script stack) input n ≡ image_after (launch_of (in_version w i) script stack) input n

-- and the same walk of every state
abbrev pub VersionsWalkSo : Type 0
VersionsWalkSo = (v w : ℕ) (i : ImageParts) (r : Region) (s : State) → chain_walk (in_version v i) r s ≡ chain_walk (in_version w i) r s

-- so an image that is migrated runs as it did
abbrev pub MigratedImagesRunSo : Type 0
MigratedImagesRunSo = (from to : List ℕ) (i j : ImageParts) → IsMigrated from to → SpellsImage from i → SpellsImage to j → (script : Script) (stack : ℕ) (input : List ℕ) (n : ℕ) →
    image_after (launch_of j script stack) input n ≡ image_after (launch_of i script stack) input n

-- and has the walks that it had
abbrev pub MigratedImagesWalkSo : Type 0
MigratedImagesWalkSo = (from to : List ℕ) (i j : ImageParts) → IsMigrated from to → SpellsImage from i → SpellsImage to j → (r : Region) (s : State) →
    chain_walk j r s ≡ chain_walk i r s
