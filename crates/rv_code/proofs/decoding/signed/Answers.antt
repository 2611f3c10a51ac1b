use Rattle.rv_code.proofs.Signing.{signed_low, signed_high, difference_fits}
use Rattle.rv_code.proofs.decoding.signed.Goals as goal

pub overflow_sub-result : goal.overflow_sub-result
overflow_sub-result c = difference_fits c.args.width c.args.bits c.requires.some c.requires.few c.requires.fits

pub returns-then-bits-width : goal.returns-then-bits-width
returns-then-bits-width c =
    signed_low c.args.width c.args.bits c.requires.some c.requires.few c.requires.fits c.if-bits-width.true

pub returns-else-bits-width : goal.returns-else-bits-width
returns-else-bits-width c =
    signed_high c.args.width c.args.bits c.requires.some c.requires.few c.requires.fits c.if-bits-width.false
