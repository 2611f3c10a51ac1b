use Rattle.std.proofs.Common.{◌≡◌, [], ◌∷◌, refl}
use Rattle.hex.specs.Hex.{encode_with, encode_lower}
use Rattle.cmm_report.proofs.Digits.{kind_byte-other, on_ok}
use Rattle.cmm_report.proofs.escape.Goals as goal

pub returns : goal.returns
unfolding encode_with
returns c =
    let written : c.encode_to_slice.new.output ≡ encode_lower (c.args.byte ∷ []) = on_ok c.encode_to_slice.result (c.encode_to_slice.ensures.fits.1 refl) c.encode_to_slice.ensures.written in
    rw (kind_byte-other c.args.byte c.ranges.byte.fits c.requires, written) refl
