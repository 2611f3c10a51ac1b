use Rattle.std.proofs.Common.{◌≡◌, ◌∙◌, sym, arith, true, false}
use Rattle.cmm_effects.proofs.Shared.{adds_then, adds_weaker}
use Rattle.cmm_select.proofs.Deciding.{located_ready, needs_both, needs_none, signed_ready, with_their_sign}
use Rattle.cmm_select.proofs.Operating.{both_signed}
use Rattle.cmm_select.specs.Operators.{shifts_of}
use Rattle.cmm_select.specs.inside.Comparing.{needs_signs}
use Rattle.cmm_select.proofs.comparing.ready.Goals as goal

pub returns-then-needs_signs-clause-readies : goal.returns-then-needs_signs-clause-readies
returns-then-needs_signs-clause-readies c =
    let o = c.args.comparison in
    let w = c.args.width in
    let l = c.wide_comparisons.ensures in
    let e : needs_signs o w ≡ true = sym c.needs_signs.ensures ∙ c.if-needs_signs.true in
    adds_weaker (adds_then c.in_ok-bring_both.ensures.brings (adds_then c.in_ok-extend.ensures.extends c.in_ok-extend-2.ensures.extends)) (omega arith)
    (λ x from to does. signed_ready x o w c.args.left.now c.args.right.now from to does.0 (with_their_sign o (needs_both o w e) l.lt l.le l.gt l.ge) does.1
    (both_signed x w does.0 does.2.0 to (shifts_of w) does.2.1 does.2.2))

pub returns-clause-readies : goal.returns-clause-readies
returns-clause-readies c =
    let o = c.args.comparison in
    let w = c.args.width in
    let l = c.wide_comparisons.ensures in
    let e : needs_signs o w ≡ false = sym c.needs_signs.ensures ∙ c.if-needs_signs.false in
    adds_weaker c.in_ok-pair.ensures.locates (omega arith)
    (λ x from to located. located_ready x o w c.args.left.now c.args.right.now from to c.in_ok-pair.pair.first c.in_ok-pair.pair.second
    (needs_none o w e l.eq l.ne l.ltu l.leu l.gtu l.geu) located)
