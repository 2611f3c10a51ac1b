use Rattle.std.proofs.Common.{arith}
use Rattle.cmm_words.specs.declared.operators.Op2.TheVariants as op
use Rattle.cmm_effects.proofs.Shared.{adds_then, adds_weaker, by_last, runs_of, runs_weaker}
use Rattle.cmm_select.proofs.Operating.{first_operates}
use Rattle.cmm_select.specs.Operators.{shifts_of}
use Rattle.cmm_select.proofs.operator.shift_signed.Goals as goal

pub returns-clause-operates : goal.returns-clause-operates
returns-clause-operates c =
    by_last c.narrow.result c.narrow.ensures.narrows
    (λ h.
    let w = c.args.width in
    let k = shifts_of w in
    adds_weaker (adds_then c.in_ok-extend.ensures.extends (adds_then c.in_ok-shift_copies.ensures.operates h)) (omega arith)
    (λ x from to does. runs_weaker
    (first_operates x w from does.0 does.2.0 to k 4 k op.Shra c.wide_operators.ensures.shra does.1 (runs_of does.2.1) does.2.2)
    (omega arith) (omega arith) (λ s sound words. words) (λ s t sound words operates. operates)))
