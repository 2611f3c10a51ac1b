use Rattle.rv_table.proofs.WordFacts.{remainder-64}
use Rattle.rv_table.proofs.arithmetic.remainder_signed.Goals as goal

pub returns-else-b-eq0 : goal.returns-else-b-eq0
returns-else-b-eq0 c =
    remainder-64
    c.args.a c.args.b _ _ _ _ c.ranges.a.fits c.ranges.b.fits c.if-b-eq0.false
    c.cast_signed.ensures c.cast_signed-else-b-eq0.ensures c.wrapping_rem.ensures c.cast_unsigned.ensures
