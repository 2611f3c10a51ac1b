use Rattle.std.proofs.Common.{◌∷◌, ◌++◌, [], arith, pos}
use Rattle.rv_asm.specs.declared.part.Part.TheVariants.{Single}
use Rattle.rv_table.specs.declared.instruction.Instr.TheVariants.{Sltiu, Sub}
use Rattle.cmm_effects.proofs.Shared.{adds_one, adds_then, adds_weaker, by_last}
use Rattle.cmm_select.proofs.Telling.{tells_same}
use Rattle.cmm_select.proofs.comparing.equal.Goals as goal

pub returns-clause-tells : goal.returns-clause-tells
returns-clause-tells c =
    by_last c.emit-2.result c.emit-2.ensures.parts
    (λ h.
    let old = c.args.asm.now.parts in
    let rd = c.args.rd in
    let i = Sub rd c.args.rs1 c.args.rs2 in
    rw (h, c.in_ok-emit.ensures.parts)
    (adds_weaker (adds_then (adds_one old i) (adds_one (old ++ Single i ∷ []) (Sltiu rd rd (pos 1)))) (omega arith)
    (λ x from to does. tells_same x from to rd c.args.rs1 c.args.rs2 (λ e. omega (arith, e, c.requires.register.0)) does)))
