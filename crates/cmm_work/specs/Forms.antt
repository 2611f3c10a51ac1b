-- The forms in which the image in a file is written to another.
use Rattle.std.specs.Prelude.{ℕ, List}
use Rattle.cmm_image.specs.Images.{IsFirstFault}
use Rattle.cmm_image.specs.Migrating.{IsFault, IsMigrated}
use Rattle.cmm_rules.specs.declared.rule.Rule.{Rule}
use Rattle.cmm_work.specs.declared.converting.Form.{Form}
use Rattle.cmm_work.specs.declared.converting.Form.TheVariants as form
use Rattle.cmm_work.specs.Converting.{IsElfOf}

-- these bytes are the image that those are, in a form
abbrev pub IsFormOf : Form → List ℕ → List ℕ → Type 0
IsFormOf form.Elf = IsElfOf
IsFormOf form.SecondVersion = IsMigrated

-- why there are no such bytes
abbrev pub FaultFor : Form → List ℕ → Rule → ℕ → Type 0
FaultFor form.Elf = IsFirstFault
FaultFor form.SecondVersion = IsFault
