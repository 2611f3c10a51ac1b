use Rattle.std.proofs.Common.{◌∷◌, ◌++◌, [], arith, pos}
use Rattle.rv_asm.specs.declared.part.Part.TheVariants.{Single}
use Rattle.rv_table.specs.declared.instruction.Instr.TheVariants.{Slli, Srai}
use Rattle.cmm_effects.proofs.Shared.{adds_one, adds_then, adds_weaker, by_last}
use Rattle.cmm_select.proofs.Widths.{shifts_back}
use Rattle.cmm_select.proofs.operator.shift_back.Goals as goal

pub returns-clause-shifts : goal.returns-clause-shifts
returns-clause-shifts c =
    by_last c.emit-2.result c.emit-2.ensures.parts
    (λ h.
    let k = c.args.amount in
    let rd = c.args.rd in
    let r = c.args.from in
    let old = c.args.asm.now.parts in
    rw (h, c.in_ok-emit.ensures.parts, c.shift_left.ensures.is, c.shift_right_signed.ensures.is)
    (adds_weaker (adds_then (adds_one old (Slli rd r (pos k))) (adds_one (old ++ Single (Slli rd r (pos k)) ∷ []) (Srai rd rd (pos k)))) (omega arith)
    (λ x from to does. shifts_back x from to rd r k (λ e. omega (arith, e, c.requires.register.0)) c.requires.amount does)))
