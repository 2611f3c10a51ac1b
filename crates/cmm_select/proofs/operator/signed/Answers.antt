use Rattle.std.proofs.Common.{◌+◌, arith}
use Rattle.cmm_effects.proofs.Shared.{adds_one, adds_then, adds_weaker, by_last, runs_of, runs_weaker}
use Rattle.cmm_effects.specs.Pieces.{Adds}
use Rattle.cmm_select.proofs.Operating.{both_signed, signed_cut, signed_operates}
use Rattle.cmm_select.proofs.Places.{One}
use Rattle.cmm_select.proofs.Wide.{does_signed, operates_leads}
use Rattle.cmm_select.specs.Operators.{shifts_of}
use Rattle.cmm_select.specs.inside.Wide.{direct}
use Rattle.cmm_select.proofs.operator.signed.Goals as goal

pub returns-clause-operates : goal.returns-clause-operates
returns-clause-operates c =
    by_last c.narrow.result c.narrow.ensures.narrows
    (λ h.
    let o = c.args.operator in
    let w = c.args.width in
    let k = shifts_of w in
    let l = c.wide_operators.ensures in
    let first : Adds 1 c.extend-2.new.asm.parts c.emit.new.self.parts (One (direct o 5 5 7)) =
    rw (c.in_ok-emit.ensures.parts, c.instruction.ensures.is) (adds_one c.extend-2.new.asm.parts (direct o 5 5 7))
    in
    adds_weaker (adds_then c.in_ok-extend.ensures.extends (adds_then c.in_ok-extend-2.ensures.extends (adds_then first h))) (omega arith)
    (λ x from to does. runs_weaker
    (signed_operates x w from does.2.0 does.2.2.0 to (k + k) 1 k o (signed_cut o c.requires l.quot l.rem)
    (both_signed x w from does.0 does.2.0 k does.1 does.2.1) (runs_of (operates_leads x does.2.0 does.2.2.0 1 o (does_signed x does.2.0 does.2.2.0 5 5 7 (omega arith) o c.requires does.2.2.1))) does.2.2.2)
    (omega arith) (omega arith) (λ s sound words. words) (λ s t sound words operates. operates)))
