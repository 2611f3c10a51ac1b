use Rattle.std.proofs.Common.{◌∙◌, sym, arith}
use Rattle.cmm_effects.proofs.Shared.{adds_none, adds_weaker, by_last}
use Rattle.cmm_select.proofs.InPlace.{finishes_put, finishes_there}
use Rattle.cmm_select.proofs.in_place.finish.Goals as goal

pub returns-then-target-ne-FIRST_SCRATCH-clause-finishes : goal.returns-then-target-ne-FIRST_SCRATCH-clause-finishes
returns-then-target-ne-FIRST_SCRATCH-clause-finishes c =
    adds_weaker (adds_none c.args.asm.now.parts) (omega arith)
    (λ x from to same. finishes_there x c.args.to.now from to (λ e. c.if-target-ne-FIRST_SCRATCH.true (c.target.ensures.is ∙ e)) same)

pub returns-clause-finishes : goal.returns-clause-finishes
returns-clause-finishes c =
    by_last c.put.result c.put.ensures.puts
    (λ h.
    adds_weaker h (omega arith)
    (λ x from to puts. finishes_put x c.args.to.now from to (sym c.target.ensures.is ∙ c.if-target-ne-FIRST_SCRATCH.false) puts))
