use Rattle.std.proofs.Common.{rules, ℤ}
use Rattle.cmm_words.specs.Widths.{bits}
use Rattle.cmm_words.specs.Integers.{signed}
use Rattle.cmm_words.proofs.Quotients.{remainder_toward_zero}
use Rattle.cmm_words.proofs.division.modulo_toward_zero.Goals as goal

pub returns : goal.returns
returns c =
    let x : ℤ = signed (bits c.args.width) c.args.left in
    let y : ℤ = signed (bits c.args.width) c.args.right in
    rw (remainder_toward_zero x y) (search rules)
