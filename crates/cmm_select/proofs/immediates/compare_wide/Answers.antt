use Rattle.std.proofs.Common.{◌≡◌, ◌∷◌, ◌++◌, [], ◌∙◌, sym, arith, true}
use Rattle.cmm_effects.proofs.Shared.{adds_one, adds_then, adds_weaker, by_last}
use Rattle.rv_asm.specs.declared.part.Part.TheVariants.{Single}
use Rattle.cmm_select.proofs.SmallComparisons.{positive_is, tells_none, tells_once, tells_twice}
use Rattle.cmm_select.specs.inside.Comparing.{is_positive}
use Rattle.cmm_select.specs.inside.Immediates.{first_comparing}
use Rattle.cmm_select.proofs.immediates.compare_wide.Goals as goal

pub returns-then-is_positive-clause-tells : goal.returns-then-is_positive-clause-tells
returns-then-is_positive-clause-tells c =
    by_last c.compare.result c.compare.ensures.tells
    (λ h.
    let o = c.args.comparison in
    let n = c.args.number in
    let e : is_positive o n ≡ true = sym c.is_positive.ensures ∙ c.if-is_positive.true in
    adds_weaker h (omega arith) (λ x from to tells. tells_none x from to c.args.rd c.args.first n o (positive_is o n e) tells))

pub returns-in-Some-clause-tells : goal.returns-in-Some-clause-tells
returns-in-Some-clause-tells c =
    by_last c.emit-in-Some.result c.emit-in-Some.ensures.parts
    (λ h.
    let o = c.args.comparison in
    let rd = c.args.rd in
    let a = c.args.first in
    let n = c.args.number in
    let i = first_comparing o rd a n in
    let j = c.in-Some.second in
    let old = c.args.asm.now.parts in
    rw (h, c.in_ok-emit.ensures.parts, c.first_comparing.ensures.is)
    (adds_weaker (adds_then (adds_one old i) (adds_one (old ++ Single i ∷ []) j)) (omega arith)
    (λ x from to does. tells_twice x from to rd a n (λ e. omega (arith, e, c.requires.register.0)) o c.requires.small j (sym c.second_comparing.ensures.is ∙ c.in-Some.is) does)))

pub returns-in-None-clause-tells : goal.returns-in-None-clause-tells
returns-in-None-clause-tells c =
    let o = c.args.comparison in
    let rd = c.args.rd in
    let a = c.args.first in
    let n = c.args.number in
    rw (c.in_ok-emit.ensures.parts, c.first_comparing.ensures.is)
    (adds_weaker (adds_one c.args.asm.now.parts (first_comparing o rd a n)) (omega arith)
    (λ x from to does. tells_once x from to rd a n (λ e. omega (arith, e, c.requires.register.0)) o c.requires.small (sym c.second_comparing.ensures.is ∙ c.in-None.is) does))
