use Rattle.cmm_effects.proofs.Shared.{by_last}
use Rattle.cmm_select.proofs.Constants.{counted, eight_for, four_for}
use Rattle.cmm_select.proofs.number.load_constant.Goals as goal

pub returns-then-number-le-SHORT-clause-sets : goal.returns-then-number-le-SHORT-clause-sets
returns-then-number-le-SHORT-clause-sets c =
    by_last c.load_rounded.result c.load_rounded.ensures.sets
    (λ h.
    counted c.args.asm.now.parts c.load_rounded.new.asm.parts c.args.number 4 c.args.rd (four_for c.args.number c.if-number-le-SHORT.true) h)

pub returns-clause-sets : goal.returns-clause-sets
returns-clause-sets c =
    by_last c.load_rounded-2.result c.load_rounded-2.ensures.sets
    (λ h.
    counted c.args.asm.now.parts c.load_rounded-2.new.asm.parts c.args.number 8 c.args.rd (eight_for c.args.number c.if-number-le-SHORT.false) h)
