use Rattle.std.proofs.Common.{◌∙◌, ap, refl}
use Rattle.hex.specs.Hex.{encode_lower}
use Rattle.cmm_report.proofs.Digits.{address_text-bytes, on_ok}
use Rattle.cmm_report.proofs.address_digits.Goals as goal

pub returns : goal.returns
returns c =
    on_ok c.encode_to_slice.result (c.encode_to_slice.ensures.fits.1 (rw c.to_be_bytes.ensures refl)) c.encode_to_slice.ensures.written
    ∙ (ap encode_lower c.to_be_bytes.ensures ∙ address_text-bytes c.args.n)
