-- What a reading of an image says of its bytes.
use Rattle.std.proofs.Common.{◌≡◌, ℕ, ◌≤◌, ◌<◌, List, length, Ok, Err, refl, sym, subst}
use Rattle.cmm_rules.specs.declared.rule.Rule.{Rule}
use Rattle.cmm_rules.specs.declared.rule.Rule.TheVariants.{ImageTooLong}
use Rattle.cmm_format.specs.declared.fault.Unread.{Unread}
use Rattle.cmm_format.specs.declared.fault.Unread.TheVariants.{Breaks, Memory}
use Rattle.cmm_format.specs.Formats.{AreBytes}
use Rattle.cmm_format.specs.Reading.{Gives}
use Rattle.cmm_format.proofs.Shared.{whole-taken, whole-again, unbroken, first-is, long-breaks}
use Rattle.cmm_image.specs.declared.parts.ImageParts.{ImageParts}
use Rattle.cmm_image.specs.declared.reading.TheConstants.{IMAGE_LIMIT}
use Rattle.cmm_image.specs.Images.{SpellsImage, image_ends, image_in, IsFirstFault, ImageFaultAt, IsImageRead, IsRefusal}
use Rattle.cmm_image.specs.inside.Wholes.{fault_of}
use Rattle.cmm_image.proofs.WholeLaws.{image-exact}

-- what is read is spelled so
pub spelled-so : (bytes : List ℕ) (i : ImageParts) → AreBytes bytes → image_in bytes ≡ Ok i → SpellsImage bytes i
spelled-so bytes i fits e =
    let t = whole-taken image_ends bytes i image-exact fits e in
    record { is_image = record { fields = t.1; short = subst (λ (b : List ℕ). length b ≤ IMAGE_LIMIT) t.0 t.2 }; spelled = t.0 }

-- what is spelled so is read
pub read-so : (bytes : List ℕ) (i : ImageParts) → SpellsImage bytes i → image_in bytes ≡ Ok i
read-so bytes i s =
    whole-again image_ends bytes i image-exact s.is_image.fields s.spelled (subst (λ (b : List ℕ). length b ≤ IMAGE_LIMIT) (sym s.spelled) s.is_image.short)

-- the first fault is what a reading answers
pub fault-first : (bytes : List ℕ) (why : Unread) → Gives {A = ImageParts} (Err why) (image_in bytes) → ImageFaultAt bytes (fault_of (length bytes) why)
fault-first bytes (Breaks b) e = record { broken = b; first = e; rule_is = refl; offset_is = refl }
fault-first bytes Memory e = tt

pub no_image : (bytes : List ℕ) (i : ImageParts) (why : Unread) → Gives {A = ImageParts} (Err why) (image_in bytes) → SpellsImage bytes i → IsImageRead i (Err (fault_of (length bytes) why))
no_image bytes i (Breaks b) e s = let r = read-so bytes i s in absurd cc
no_image bytes i Memory e s = tt

pub no_fault : (bytes : List ℕ) (i : ImageParts) (rule : Rule) (offset : ℕ) → image_in bytes ≡ Ok i → IsFirstFault bytes rule offset → ⊥
no_fault bytes i rule offset e f = unbroken image_ends bytes i rule offset e f

pub fault-is : (bytes : List ℕ) (rule : Rule) (offset : ℕ) (why : Unread) → Gives {A = ImageParts} (Err why) (image_in bytes) → IsFirstFault bytes rule offset → IsRefusal rule offset (Err (fault_of (length bytes) why))
fault-is bytes rule offset (Breaks b) e f = first-is image_ends bytes rule offset b e f
fault-is bytes rule offset Memory e f = tt

pub image-is : (bytes : List ℕ) (i j : ImageParts) → image_in bytes ≡ Ok i → SpellsImage bytes j → i ≡ j
image-is bytes i j e s = let r = read-so bytes j s in cc

-- bytes that are longer than an image may be hold none
pub long_is_refused : (bytes : List ℕ) → IMAGE_LIMIT < length bytes → IsFirstFault bytes ImageTooLong IMAGE_LIMIT
long_is_refused bytes long = long-breaks image_ends bytes long
