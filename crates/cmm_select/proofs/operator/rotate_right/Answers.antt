use Rattle.std.proofs.Common.{◌-◌, arith, negsuc, pos}
use Rattle.cmm_words.specs.Widths.{bits}
use Rattle.cmm_words.specs.declared.operators.Op2.TheVariants as op
use Rattle.rv_table.specs.declared.instruction.Instr.TheVariants.{Addi, Andi, Or, Sll, Srl, Sub}
use Rattle.cmm_effects.proofs.Shared.{adds_then, adds_weaker, by_last, runs_of, runs_weaker}
use Rattle.cmm_effects.specs.Pieces.{Adds}
use Rattle.cmm_select.proofs.Chains.{adds_six}
use Rattle.cmm_select.proofs.Operating.{uncut_operates}
use Rattle.cmm_select.proofs.Rotating.{Rotation, rotates_right}
use Rattle.cmm_select.specs.Operators.{shifts_of}
use Rattle.cmm_select.proofs.operator.rotate_right.Goals as goal

pub returns-clause-operates : goal.returns-clause-operates
returns-clause-operates c =
    by_last c.narrow.result c.narrow.ensures.narrows
    (λ h.
    let w = c.args.width in
    let k = shifts_of w in
    let old = c.args.asm.now.parts in
    let first : Adds 6 old c.emit-6.new.self.parts (Rotation w (Srl 6 5 7) (Sll 5 5 7) (Or 5 5 6)) =
    rw (c.in_ok-emit-6.ensures.parts, c.in_ok-emit-5.ensures.parts, c.in_ok-emit-4.ensures.parts, c.in_ok-emit-3.ensures.parts, c.in_ok-emit-2.ensures.parts, c.in_ok-emit.ensures.parts, c.count_of.ensures.is, c.without_width.ensures.is)
    (adds_six old (Andi 7 7 (pos (bits w - 1))) (Srl 6 5 7) (Addi 7 7 (negsuc (bits w - 1))) (Sub 7 0 7) (Sll 5 5 7) (Or 5 5 6))
    in
    adds_weaker (adds_then first h) (omega arith)
    (λ x from to does. runs_weaker
    (uncut_operates x w from does.0 to 6 k op.Rotr (runs_of (rotates_right x from does.0 w c.wide_operators.ensures.rotr does.1)) does.2)
    (omega arith) (omega arith) (λ s sound words. words) (λ s t sound words operates. operates)))
