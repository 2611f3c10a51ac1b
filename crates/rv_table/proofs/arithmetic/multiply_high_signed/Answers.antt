use Rattle.std.proofs.Common.{ap, ◌∙◌}
use Rattle.rv_table.specs.Words.{upper_half}
use Rattle.rv_table.proofs.WordFacts.{signed_product}
use Rattle.rv_table.proofs.arithmetic.multiply_high_signed.Goals as goal

pub returns : goal.returns
returns c =
    let product = signed_product
    c.args.a c.args.b _ _ c.ranges.a.fits c.ranges.b.fits c.cast_signed.ensures c.cast_signed-2.ensures
    in
    c.upper_half.ensures ∙ ap upper_half product
