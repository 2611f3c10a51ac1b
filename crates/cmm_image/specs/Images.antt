-- Which bytes spell an image, and which field is named of bytes that spell none.
use Rattle.std.specs.Prelude.{◌≡◌, ℕ, ◌≤◌, List, length, Result, Ok, Err}
use Rattle.cmm_rules.specs.declared.rule.Rule.{Rule}
use Rattle.cmm_rules.specs.declared.rule.Rule.TheVariants.{BytesAfterImage, ImageTooLong}
use Rattle.cmm_format.specs.declared.fault.Broken.{Broken}
use Rattle.cmm_image.specs.declared.fault.ImageFault.{ImageFault}
use Rattle.cmm_image.specs.declared.fault.ImageFault.TheVariants.{At, Memory}
use Rattle.cmm_image.specs.declared.parts.ImageParts.{ImageParts}
use Rattle.cmm_image.specs.declared.reading.TheConstants.{IMAGE_LIMIT}
use Rattle.cmm_format.specs.Wholes.{Ends, whole_in, IsFirstBroken}
use Rattle.cmm_image.specs.WholeImage.{image}

-- an image keeps the conditions of all fields, and is not too long
pub record IsImage (i : ImageParts) : Type 0 where
  pub fields : image.Holds i
  pub short : length (image.spelled i) ≤ IMAGE_LIMIT

-- these bytes are this image
pub record SpellsImage (bytes : List ℕ) (i : ImageParts) : Type 0 where
  pub is_image : IsImage i
  pub spelled : bytes ≡ image.spelled i

-- what is asked of all the bytes
abbrev pub image_ends : Ends
image_ends = record { limit = IMAGE_LIMIT; too_long = ImageTooLong; followed = BytesAfterImage }

-- the image that all of the bytes are, or the first field that breaks a rule
abbrev pub image_in : List ℕ → Result ImageParts Broken
image_in = whole_in image image_ends

-- the first field that breaks a rule begins at this offset
abbrev pub IsFirstFault : List ℕ → Rule → ℕ → Type 0
IsFirstFault = IsFirstBroken image image_ends

-- what is said to be wrong is the first fault
abbrev pub ImageFaultAt : List ℕ → ImageFault → Type 0
ImageFaultAt bytes (At rule offset) = IsFirstFault bytes rule offset
ImageFaultAt bytes Memory = Unit {0}

-- the answer is this image, unless memory ran out
abbrev pub IsImageRead : ImageParts → Result ImageParts ImageFault → Type 0
IsImageRead i (Ok read) = read ≡ i
IsImageRead i (Err (At rule offset)) = ⊥
IsImageRead i (Err Memory) = Unit {0}

-- the answer is that this rule is broken there, unless memory ran out
abbrev pub IsRefusal : Rule → ℕ → Result ImageParts ImageFault → Type 0
IsRefusal rule offset (Ok read) = ⊥
IsRefusal rule offset (Err (At r o)) = (r ≡ rule) × (o ≡ offset)
IsRefusal rule offset (Err Memory) = Unit {0}
