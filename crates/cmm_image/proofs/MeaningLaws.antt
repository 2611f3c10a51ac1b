-- Bytes mean one thing.
use Rattle.std.proofs.Common.{◌≡◌, ℕ, ◌-◌, List, length, Result, Ok, Err, refl, inl, inr}
use Rattle.std.specs.Prelude.{◌⊎◌}
use Rattle.cmm_rules.specs.declared.rule.Rule.{Rule}
use Rattle.cmm_format.specs.declared.fault.Broken.{Broken}
use Rattle.cmm_image.specs.declared.parts.ImageParts.{ImageParts}
use Rattle.cmm_format.specs.Formats.{AreBytes}
use Rattle.cmm_image.specs.Images.{SpellsImage, IsFirstFault, image_in}
use Rattle.cmm_image.specs.Laws.{EachMeansOneThing, ImagesAreOne, NoImageHasAFault}
use Rattle.cmm_image.proofs.ReadLaws.{spelled-so, read-so, no_fault}

meaning : (bytes : List ℕ) (r : Result ImageParts Broken) → AreBytes bytes → image_in bytes ≡ r → ((i : ImageParts) × SpellsImage bytes i) ⊎ ((rule : Rule) × (offset : ℕ) × IsFirstFault bytes rule offset)
meaning bytes (Ok i) fits e = inl (i, spelled-so bytes i fits e)
meaning bytes (Err b) fits e = inr (b.rule, (length bytes - b.left), record { broken = b; first = e; rule_is = refl; offset_is = refl })

pub each_means_one_thing : EachMeansOneThing
each_means_one_thing bytes fits = meaning bytes (image_in bytes) fits refl

pub images_are_one : ImagesAreOne
images_are_one bytes i j s t =
    let a = read-so bytes i s in
    let b = read-so bytes j t in
    cc

pub no_image_has_a_fault : NoImageHasAFault
no_image_has_a_fault bytes i rule offset s f = no_fault bytes i rule offset (read-so bytes i s) f
