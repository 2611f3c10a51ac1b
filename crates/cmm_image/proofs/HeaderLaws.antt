-- The header has 64 bytes.
use Rattle.std.proofs.Common.{◌≡◌, ℕ, ◌+◌, List, ◌++◌, length, arith}
use Rattle.std.proofs.lemmas.List.{length-append}
use Rattle.cmm_format.specs.Formats.{number_bytes}
use Rattle.cmm_format.proofs.Shared.{length-number_bytes}
use Rattle.cmm_image.specs.declared.parts.ImageParts.{ImageParts}
use Rattle.cmm_image.specs.WholeImage.{header_bytes}

number_then : (width n : ℕ) (rest : List ℕ) → length (number_bytes width n ++ rest) ≡ width + length rest
number_then width n rest = omega (arith, length-append (number_bytes width n) rest, length-number_bytes width n)

pub header_long : (i : ImageParts) → length (header_bytes i) ≡ 64
header_long i = simp (number_then, length-number_bytes)
