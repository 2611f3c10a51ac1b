use Rattle.std.proofs.Common.{◌≡◌, ◌≢◌, ◌∙◌, sym, arith, true, false}
use Rattle.cmm_effects.proofs.Shared.{adds_then, adds_weaker, by_last}
use Rattle.cmm_select.proofs.Deciding.{needs_both, needs_none, with_their_sign}
use Rattle.cmm_select.proofs.SmallComparisons.{compared_small, tells_plain, tells_signed}
use Rattle.cmm_select.specs.inside.Comparing.{needs_signs}
use Rattle.cmm_select.proofs.immediates.compare_with.Goals as goal

pub compare_wide-requires-clause-small : goal.compare_wide-requires-clause-small
compare_wide-requires-clause-small c = compared_small c.args.width c.args.number c.requires.small

pub compare_wide-requires-2-clause-small : goal.compare_wide-requires-2-clause-small
compare_wide-requires-2-clause-small c = compared_small c.args.width c.args.number c.requires.small

pub returns-then-needs_signs-clause-tells : goal.returns-then-needs_signs-clause-tells
returns-then-needs_signs-clause-tells c =
    by_last c.compare_wide.result c.compare_wide.ensures.tells
    (λ h.
    let o = c.args.comparison in
    let w = c.args.width in
    let rd = c.args.rd in
    let l = c.wide_comparisons.ensures in
    let e : needs_signs o w ≡ true = sym c.needs_signs.ensures ∙ c.if-needs_signs.true in
    let written : rd ≢ 0 = (λ e. omega (arith, e, c.requires.register.0)) in
    adds_weaker (adds_then c.in_ok-sign.ensures.extends h) (omega arith)
    (λ x from to does. tells_signed x from to rd c.args.first c.args.number o w c.requires.small (with_their_sign o (needs_both o w e) l.lt l.le l.gt l.ge) written does))

pub returns-clause-tells : goal.returns-clause-tells
returns-clause-tells c =
    by_last c.compare_wide-2.result c.compare_wide-2.ensures.tells
    (λ h.
    let o = c.args.comparison in
    let w = c.args.width in
    let l = c.wide_comparisons.ensures in
    let e : needs_signs o w ≡ false = sym c.needs_signs.ensures ∙ c.if-needs_signs.false in
    adds_weaker h (omega arith)
    (λ x from to tells. tells_plain x from to c.args.rd c.args.first c.args.number o w c.requires.small (needs_none o w e l.eq l.ne l.ltu l.leu l.gtu l.geu) tells))
