use Rattle.std.proofs.Common.{◌+◌, ◌∷◌, ◌++◌, [], IsTrue, arith, pos}
use Rattle.rv_asm.specs.Appending.{Then}
use Rattle.rv_asm.specs.declared.part.Part.TheVariants.{Single}
use Rattle.rv_table.specs.declared.instruction.Instr.TheVariants.{Mul, Sltiu}
use Rattle.cmm_effects.proofs.Shared.{adds_one, adds_then, adds_weaker, by_last, runs_of}
use Rattle.cmm_effects.specs.Pieces.{Adds}
use Rattle.cmm_select.proofs.Operating.{cut_operates, kept_operates, shift_cut}
use Rattle.cmm_select.proofs.Places.{One}
use Rattle.cmm_select.proofs.Shifting.{does_shift}
use Rattle.cmm_select.specs.Operators.{shifts_of}
use Rattle.cmm_select.specs.inside.Wide.{direct, keeps_width}
use Rattle.cmm_select.proofs.operator.shift.Goals as goal

pub returns-clause-operates : goal.returns-clause-operates
returns-clause-operates c =
    by_last c.narrow.result c.narrow.ensures.narrows
    (λ h.
    let o = c.args.operator in
    let w = c.args.width in
    let l = c.wide_operators.ensures in
    let old = c.args.asm.now.parts in
    let one = old ++ Single (Sltiu 6 7 (pos 64)) ∷ [] in
    let first : Adds 3 old c.emit-3.new.self.parts (Then (One (Sltiu 6 7 (pos 64))) (Then (One (direct o 5 5 7)) (One (Mul 5 5 6)))) =
    rw (c.in_ok-emit-3.ensures.parts, c.in_ok-emit-2.ensures.parts, c.in_ok-emit.ensures.parts, c.instruction.ensures.is)
    (adds_weaker (adds_then (adds_one old (Sltiu 6 7 (pos 64))) (adds_then (adds_one one (direct o 5 5 7)) (adds_one (one ++ Single (direct o 5 5 7) ∷ []) (Mul 5 5 6)))) (omega arith) (λ x from to does. does))
    in
    adds_weaker (adds_then first h) (omega arith)
    (λ x from to does. cut_operates x from does.0 to 3 (shifts_of w) o w (shift_cut o c.requires l.shl l.shrl)
    (runs_of (does_shift x from does.0 o c.requires does.1)) does.2))

pub returns-then-keeps_width-clause-operates : goal.returns-then-keeps_width-clause-operates
returns-then-keeps_width-clause-operates c =
    let o = c.args.operator in
    let w = c.args.width in
    let old = c.args.asm.now.parts in
    let one = old ++ Single (Sltiu 6 7 (pos 64)) ∷ [] in
    let first : Adds 3 old c.emit-3.new.self.parts (Then (One (Sltiu 6 7 (pos 64))) (Then (One (direct o 5 5 7)) (One (Mul 5 5 6)))) =
    rw (c.in_ok-emit-3.ensures.parts, c.in_ok-emit-2.ensures.parts, c.in_ok-emit.ensures.parts, c.instruction.ensures.is)
    (adds_weaker (adds_then (adds_one old (Sltiu 6 7 (pos 64))) (adds_then (adds_one one (direct o 5 5 7)) (adds_one (one ++ Single (direct o 5 5 7) ∷ []) (Mul 5 5 6)))) (omega arith) (λ x from to does. does))
    in
    let keeps : IsTrue (keeps_width o) = grind (arith, c.keeps_width.ensures, c.if-keeps_width.true) in
    adds_weaker first (omega arith)
    (λ x from to does. kept_operates x from to 3 (3 + shifts_of w) o w keeps (omega arith) (runs_of (does_shift x from to o c.requires does)))
