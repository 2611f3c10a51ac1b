use Rattle.std.proofs.Common.{◌∙◌, sym, arith}
use Rattle.cmm_effects.proofs.Shared.{adds_then, adds_weaker, by_last, leads_weaker}
use Rattle.cmm_select.proofs.InPlace.{home_is, home_other}
use Rattle.cmm_select.proofs.Putting.{copies_brought, copies_home}
use Rattle.cmm_select.proofs.assigning.assign_copy.Goals as goal

pub put-requires-clause-register : goal.put-requires-clause-register
put-requires-clause-register c = (home_is c.args.asm.now.labels c.args.from.now c.in-Some.register c.requires.operand (sym c.home_of.ensures ∙ c.in-Some.is)).1

pub put-requires-clause-other : goal.put-requires-clause-other
put-requires-clause-other c = home_other c.args.asm.now.labels c.args.from.now c.in-Some.register c.requires.operand (sym c.home_of.ensures ∙ c.in-Some.is)

pub returns-in-Some-clause-copies : goal.returns-in-Some-clause-copies
returns-in-Some-clause-copies c =
    by_last c.put.result c.put.ensures.puts
    (λ h.
    adds_weaker h (omega arith)
    (λ x from end puts. leads_weaker (copies_home x c.args.to.now from end c.args.from.now c.in-Some.register (sym c.home_of.ensures ∙ c.in-Some.is) puts)
    (omega arith) (λ s sound can. can) (λ s t sound can put. put)))

pub returns-in_ok-bring_operand-in-None-clause-copies : goal.returns-in_ok-bring_operand-in-None-clause-copies
returns-in_ok-bring_operand-in-None-clause-copies c =
    by_last c.finish.result c.finish.ensures.finishes
    (λ h.
    adds_weaker (adds_then c.in_ok-bring_operand-in-None.ensures.brings h) (omega arith)
    (λ x from end does. copies_brought x c.args.to.now from end c.args.from.now c.target.result c.target.ensures.is does))
