-- Worked rows: a whole small image, and what is wrong with bytes that are nearly one.
use Rattle.std.proofs.Common.{◌≡◌, ℕ, List, [], ◌∷◌, ◌++◌, take, drop, None, Ok, Err, refl}
use Rattle.cmm_rules.specs.declared.rule.Rule.TheVariants.{ImageIsCut, BadImageField, BytesAfterImage, NotAnImage}
use Rattle.cmm_image.specs.declared.parts.ImageParts.{ImageParts}
use Rattle.cmm_image.specs.declared.rows.VariablePlace.TheVariants.{Slot, Register}
use Rattle.cmm_format.specs.Formats.{number_at, number_bytes, block_at, text_at, text_bytes}
use Rattle.cmm_image.specs.Places.{place_at}
use Rattle.cmm_image.specs.WholeImage.{image}
use Rattle.cmm_format.specs.Wholes.{whole_in}
use Rattle.cmm_image.specs.Images.{image_in}

-- 0x434d4d49, version 1, four bytes of code, no data, the start and the last at 0x10000, one procedure, which is main
front : List ℕ
front =
    67 ∷ 77 ∷ 77 ∷ 73 ∷ 1 ∷ 0 ∷ 0 ∷ 0 ∷ 4 ∷ 0 ∷ 0 ∷ 0 ∷ 0 ∷ 0 ∷ 0 ∷ 0 ∷ 0 ∷ 0 ∷ 0 ∷ 0 ∷ 0 ∷ 0 ∷ 0 ∷ 0
    ∷ 0 ∷ 0 ∷ 1 ∷ 0 ∷ 0 ∷ 0 ∷ 0 ∷ 0 ∷ 0 ∷ 0 ∷ 1 ∷ 0 ∷ 0 ∷ 0 ∷ 0 ∷ 0
    ∷ 1 ∷ 0 ∷ 0 ∷ 0 ∷ 0 ∷ 0 ∷ 0 ∷ 0 ∷ 0 ∷ 0 ∷ 0 ∷ 0 ∷ 0 ∷ 0 ∷ 0 ∷ 0 ∷ 0 ∷ 0 ∷ 0 ∷ 0 ∷ 0 ∷ 0 ∷ 0 ∷ 0 ∷ []

-- the code, and the record of the procedure m, without a frame
body : List ℕ
body =
    19 ∷ 0 ∷ 0 ∷ 0 ∷ 0 ∷ 0 ∷ 1 ∷ 0 ∷ 0 ∷ 0 ∷ 0 ∷ 0 ∷ 1 ∷ 109 ∷ 0 ∷ 0 ∷ 0 ∷ 0 ∷ 255 ∷ 255 ∷ 255 ∷ 255 ∷ 0 ∷ 0 ∷ 0 ∷ 0 ∷ 0 ∷ 0 ∷ 0 ∷ []

pub small : ImageParts
small = record {
  version = 1;
  code = 19 ∷ 0 ∷ 0 ∷ 0 ∷ [];
  initial = [];
  start = 65536;
  last = 65536;
  main = 0;
  procs = record { code = 65536; name = 109 ∷ []; frame = 0; return_at = None; saved = []; variables = []; stack_labels = []; continuations = [] } ∷ [];
  sites = [];
  labels = [];
  globals = [];
}

small_is_read : image_in (front ++ body) ≡ Ok small
unfolding front body small whole_in number_at block_at text_at
small_is_read = refl

small_is_spelled : image.spelled small ≡ front ++ body
unfolding front body small number_bytes text_bytes
small_is_spelled = refl

-- the last two bytes are one field, at 91
small_is_cut : image_in (front ++ take 28 body) ≡ Err (record { rule = ImageIsCut; left = 1 })
unfolding front body whole_in number_at block_at text_at
small_is_cut = refl

one_too_many : image_in (front ++ body ++ (0 ∷ [])) ≡ Err (record { rule = BytesAfterImage; left = 1 })
unfolding front body whole_in number_at block_at text_at
one_too_many = refl

-- the frame's size is 8
bad_frame : image_in (front ++ take 14 body ++ (8 ∷ drop 15 body)) ≡ Err (record { rule = BadImageField; left = 15 })
unfolding front body whole_in number_at block_at text_at
bad_frame = refl

nothing : image_in [] ≡ Err (record { rule = ImageIsCut; left = 0 })
unfolding whole_in number_at
nothing = refl

other_front : image_in (0 ∷ drop 1 (front ++ body)) ≡ Err (record { rule = NotAnImage; left = 93 })
unfolding front body whole_in number_at block_at text_at
other_front = refl

slot : place_at 32 (1 ∷ 24 ∷ 0 ∷ 0 ∷ 0 ∷ 7 ∷ []) ≡ Ok (Slot 24, 7 ∷ [])
unfolding place_at
slot = refl

register : place_at 0 (2 ∷ 27 ∷ []) ≡ Ok (Register 27, [])
unfolding place_at
register = refl
