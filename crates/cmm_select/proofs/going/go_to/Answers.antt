use Rattle.std.proofs.Common.{arith}
use Rattle.rv_asm.specs.declared.part.Part.TheVariants.{Jump}
use Rattle.cmm_effects.proofs.Shared.{adds_part, adds_weaker, by_last, turns_jump}
use Rattle.cmm_select.proofs.going.go_to.Goals as goal

pub returns-clause-turns : goal.returns-clause-turns
returns-clause-turns c =
    by_last c.jump.result c.jump.ensures.parts
    (λ h.
    rw h
    (adds_weaker (adds_part c.args.asm.now.parts (Jump c.args.to) 2 (omega arith)) (omega arith)
    (λ x from on does. turns_jump x from on c.args.to does)))
