use Rattle.std.proofs.Common.{◌-◌, ◌+◌, ◌*◌, length, arith}
use Rattle.cmm_effects.proofs.Shared.{adds_weaker, by_last}
use Rattle.cmm_select.proofs.Halving.{enough, goes_in_weaker}
use Rattle.cmm_select.proofs.searching.go_among.Goals as goal

pub returns-clause-goes : goal.returns-clause-goes
returns-clause-goes c =
    by_last c.search_on.result c.search_on.ensures.goes
    (λ h.
    let ss = c.args.spans.now in
    let k = length ss - 4 in
    adds_weaker (h k (omega (arith, enough k, c.if-spans-le-FEW.false))) (omega arith)
    (λ x from on does. goes_in_weaker x (82 + 11 * k) (20 * length ss) ss from on (omega (arith, c.if-spans-le-FEW.false)) does))
