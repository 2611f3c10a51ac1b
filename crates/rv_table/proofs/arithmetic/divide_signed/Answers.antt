use Rattle.rv_table.proofs.WordFacts.{quotient-64}
use Rattle.rv_table.proofs.arithmetic.divide_signed.Goals as goal

pub returns-else-b-eq0 : goal.returns-else-b-eq0
returns-else-b-eq0 c =
    quotient-64
    c.args.a c.args.b _ _ _ _ c.ranges.a.fits c.ranges.b.fits c.if-b-eq0.false
    c.cast_signed.ensures c.cast_signed-else-b-eq0.ensures c.wrapping_div.ensures c.cast_unsigned.ensures
