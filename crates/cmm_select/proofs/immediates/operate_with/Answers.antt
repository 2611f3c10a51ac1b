use Rattle.std.proofs.Common.{◌≡◌, ◌≢◌, ◌+◌, ◌∙◌, IsTrue, sym, arith, true, false}
use Rattle.cmm_effects.proofs.Shared.{adds_one, adds_then, adds_weaker, by_last, leads_weaker}
use Rattle.cmm_effects.specs.Pieces.{Adds}
use Rattle.cmm_select.proofs.SmallNumbers.{does_small, signed_small_cut, small_cut}
use Rattle.cmm_select.proofs.Operating.{cut_makes, kept_makes, signed_makes}
use Rattle.cmm_select.proofs.Places.{One}
use Rattle.cmm_select.specs.Operators.{shifts_of}
use Rattle.cmm_select.specs.inside.Immediates.{heeds_sign, immediate}
use Rattle.cmm_select.specs.inside.Wide.{keeps_width}
use Rattle.cmm_select.proofs.immediates.operate_with.Goals as goal

pub returns-then-heeds_sign-clause-operates : goal.returns-then-heeds_sign-clause-operates
returns-then-heeds_sign-clause-operates c =
    by_last c.narrow.result c.narrow.ensures.narrows
    (λ h.
    let o = c.args.operator in
    let w = c.args.width in
    let rd = c.args.rd in
    let n = c.args.number in
    let e : heeds_sign o w ≡ true = sym c.heeds_sign.ensures ∙ c.if-heeds_sign.true in
    let mid = c.sign.new.asm.parts in
    let second : Adds 1 mid c.emit.new.self.parts (One (immediate o rd rd n)) = rw (c.in_ok-emit.ensures.parts, c.instruction.ensures.is) (adds_one mid (immediate o rd rd n)) in
    let written : rd ≢ 0 = (λ e. omega (arith, e, c.requires.register.0)) in
    adds_weaker (adds_then c.in_ok-sign.ensures.extends (adds_then second h)) (omega arith)
    (λ x from to does. signed_makes x from does.0 does.2.0 to (shifts_of w) rd c.args.first n o w (signed_small_cut o w e c.wide_operators.ensures.shra) does.1
    (does_small x does.0 does.2.0 rd rd n written o c.requires.small does.2.1) does.2.2))

pub returns-clause-operates : goal.returns-clause-operates
returns-clause-operates c =
    by_last c.narrow-2.result c.narrow-2.ensures.narrows
    (λ h.
    let o = c.args.operator in
    let w = c.args.width in
    let rd = c.args.rd in
    let a = c.args.first in
    let n = c.args.number in
    let l = c.wide_operators.ensures in
    let e : heeds_sign o w ≡ false = sym c.heeds_sign.ensures ∙ c.if-heeds_sign.false in
    let first : Adds 1 c.args.asm.now.parts c.emit-2.new.self.parts (One (immediate o rd a n)) =
    rw (c.in_ok-emit-2.ensures.parts, c.instruction-2.ensures.is) (adds_one c.args.asm.now.parts (immediate o rd a n))
    in
    let written : rd ≢ 0 = (λ e. omega (arith, e, c.requires.register.0)) in
    adds_weaker (adds_then first h) (omega arith)
    (λ x from to does. leads_weaker
    (cut_makes (λ s. s.registers a) (λ s. n) x from does.0 to 1 (shifts_of w) rd o w (small_cut o w n c.requires.small e l.add l.sub l.and l.or l.xor l.shl l.shrl l.shra)
    (does_small x from does.0 rd a n written o c.requires.small does.1) does.2)
    (omega arith) (λ s sound words. words) (λ s t sound words makes. makes)))

pub returns-then-keeps_width-clause-operates : goal.returns-then-keeps_width-clause-operates
returns-then-keeps_width-clause-operates c =
    let o = c.args.operator in
    let w = c.args.width in
    let rd = c.args.rd in
    let a = c.args.first in
    let n = c.args.number in
    let first : Adds 1 c.args.asm.now.parts c.emit-2.new.self.parts (One (immediate o rd a n)) =
    rw (c.in_ok-emit-2.ensures.parts, c.instruction-2.ensures.is) (adds_one c.args.asm.now.parts (immediate o rd a n))
    in
    let written : rd ≢ 0 = (λ e. omega (arith, e, c.requires.register.0)) in
    let keeps : IsTrue (keeps_width o) = grind (arith, c.keeps_width.ensures, c.if-keeps_width.true) in
    adds_weaker first (omega arith)
    (λ x from to does. kept_makes (λ s. s.registers a) (λ s. n) x from to 1 (3 + shifts_of w) rd o w keeps (omega arith)
    (does_small x from to rd a n written o c.requires.small does))
