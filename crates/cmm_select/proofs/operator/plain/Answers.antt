use Rattle.std.proofs.Common.{◌≢◌, ◌+◌, IsTrue, arith}
use Rattle.cmm_effects.proofs.Shared.{adds_one, adds_then, adds_weaker, by_last}
use Rattle.cmm_effects.specs.Pieces.{Adds}
use Rattle.cmm_select.proofs.Operating.{cut_makes, kept_makes, plain_cut}
use Rattle.cmm_select.proofs.Places.{One}
use Rattle.cmm_select.proofs.Wide.{does_plain}
use Rattle.cmm_select.specs.Operators.{shifts_of}
use Rattle.cmm_select.specs.inside.Wide.{direct, keeps_width}
use Rattle.cmm_select.proofs.operator.plain.Goals as goal

pub returns-clause-operates : goal.returns-clause-operates
returns-clause-operates c =
    by_last c.narrow.result c.narrow.ensures.narrows
    (λ h.
    let o = c.args.operator in
    let w = c.args.width in
    let rd = c.args.rd in
    let a = c.args.first in
    let b = c.args.second in
    let l = c.wide_operators.ensures in
    let first : Adds 1 c.args.asm.now.parts c.emit.new.self.parts (One (direct o rd a b)) =
    rw (c.in_ok-emit.ensures.parts, c.instruction.ensures.is) (adds_one c.args.asm.now.parts (direct o rd a b))
    in
    let written : rd ≢ 0 = (λ e. omega (arith, e, c.requires.register.0)) in
    adds_weaker (adds_then first h) (omega arith)
    (λ x from to does. cut_makes (λ s. s.registers a) (λ s. s.registers b) x from does.0 to 1 (shifts_of w) rd o w (plain_cut o c.requires.plain l.add l.sub l.mul l.and l.or l.xor l.divu l.modu w)
    (does_plain x from does.0 rd a b written o c.requires.plain does.1) does.2))

pub returns-then-keeps_width-clause-operates : goal.returns-then-keeps_width-clause-operates
returns-then-keeps_width-clause-operates c =
    let o = c.args.operator in
    let w = c.args.width in
    let rd = c.args.rd in
    let a = c.args.first in
    let b = c.args.second in
    let first : Adds 1 c.args.asm.now.parts c.emit.new.self.parts (One (direct o rd a b)) =
    rw (c.in_ok-emit.ensures.parts, c.instruction.ensures.is) (adds_one c.args.asm.now.parts (direct o rd a b))
    in
    let written : rd ≢ 0 = (λ e. omega (arith, e, c.requires.register.0)) in
    let keeps : IsTrue (keeps_width o) = grind (arith, c.keeps_width.ensures, c.if-keeps_width.true) in
    adds_weaker first (omega arith)
    (λ x from to does. kept_makes (λ s. s.registers a) (λ s. s.registers b) x from to 1 (1 + shifts_of w) rd o w keeps (omega arith)
    (does_plain x from to rd a b written o c.requires.plain does))
