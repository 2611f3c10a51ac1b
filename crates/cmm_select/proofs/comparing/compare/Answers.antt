use Rattle.std.proofs.Common.{◌≢◌, ◌∙◌, sym, arith, pos}
use Rattle.cmm_effects.proofs.Shared.{adds_one, adds_then, adds_weaker, by_last, leads_weaker}
use Rattle.cmm_effects.specs.Pieces.{Adds}
use Rattle.cmm_select.proofs.Places.{One}
use Rattle.cmm_select.proofs.Telling.{contrary_is_plain, tells_contrary}
use Rattle.rv_table.specs.declared.instruction.Instr.TheVariants.{Xori}
use Rattle.cmm_select.proofs.comparing.compare.Goals as goal

pub compare_directly-requires-clause-direct : goal.compare_directly-requires-clause-direct
compare_directly-requires-clause-direct c = contrary_is_plain c.args.comparison c.in-Some.other (sym c.contrary.ensures ∙ c.in-Some.is)

pub returns-in_ok-compare_directly-in-Some-clause-tells : goal.returns-in_ok-compare_directly-in-Some-clause-tells
returns-in_ok-compare_directly-in-Some-clause-tells c =
    by_last c.emit.result c.emit.ensures.parts
    (λ h.
    let o = c.in-Some.other in
    let rd = c.args.rd in
    let mid = c.compare_directly.new.asm.parts in
    let second : Adds 1 mid c.emit.new.self.parts (One (Xori rd rd (pos 1))) = rw h (adds_one mid (Xori rd rd (pos 1))) in
    let written : rd ≢ 0 = (λ e. omega (arith, e, c.requires.register.0)) in
    adds_weaker (adds_then c.in_ok-compare_directly-in-Some.ensures.tells second) (omega arith)
    (λ x from to does. tells_contrary x from to rd c.args.first c.args.second written c.args.comparison o (sym c.contrary.ensures ∙ c.in-Some.is) does))

pub compare_directly-requires-in-None-clause-direct : goal.compare_directly-requires-in-None-clause-direct
compare_directly-requires-in-None-clause-direct c = sym c.contrary.ensures ∙ c.in-None.is

pub returns-in-None-clause-tells : goal.returns-in-None-clause-tells
returns-in-None-clause-tells c =
    by_last c.compare_directly-in-None.result c.compare_directly-in-None.ensures.tells
    (λ h.
    adds_weaker h (omega arith)
    (λ x from to leads. leads_weaker leads (omega arith) (λ s sound p. tt) (λ s t sound p tells. tells)))
