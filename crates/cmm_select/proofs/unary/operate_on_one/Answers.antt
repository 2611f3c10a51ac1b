use Rattle.std.proofs.Common.{◌≢◌, arith}
use Rattle.cmm_effects.proofs.Shared.{adds_one, adds_then, adds_weaker, by_last}
use Rattle.cmm_effects.specs.Pieces.{Adds}
use Rattle.cmm_select.proofs.Converting.{cut_makes_one, cut_of_one, does_direct}
use Rattle.cmm_select.proofs.Places.{One}
use Rattle.cmm_select.specs.Operators.{shifts_of}
use Rattle.cmm_select.specs.inside.Complements.{direct_of_one}
use Rattle.cmm_select.proofs.unary.operate_on_one.Goals as goal

pub returns-clause-operates : goal.returns-clause-operates
returns-clause-operates c =
    by_last c.narrow.result c.narrow.ensures.narrows
    (λ h.
    let o = c.args.operator in
    let w = c.args.width in
    let rd = c.args.rd in
    let a = c.args.from in
    let l = c.wide_operators.ensures in
    let first : Adds 1 c.args.asm.now.parts c.emit.new.self.parts (One (direct_of_one o rd a)) =
    rw (c.in_ok-emit.ensures.parts, c.instruction.ensures.is) (adds_one c.args.asm.now.parts (direct_of_one o rd a))
    in
    let written : rd ≢ 0 = (λ e. omega (arith, e, c.requires.register.0)) in
    adds_weaker (adds_then first h) (omega arith)
    (λ x from to does. cut_makes_one x from does.0 to rd a 1 (shifts_of w) o w (cut_of_one o l.com l.neg) (does_direct x from does.0 rd a written o does.1) does.2))
