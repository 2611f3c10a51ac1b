use Rattle.std.proofs.Common.{◌∙◌, sym, arith}
use Rattle.cmm_effects.proofs.Shared.{adds_part, adds_weaker, by_last}
use Rattle.cmm_select.proofs.Deciding.{straight_branch, turned_branch}
use Rattle.rv_asm.specs.declared.part.Part.TheVariants.{Branch}
use Rattle.cmm_select.proofs.comparing.branch.Goals as goal

pub returns-in-Some-clause-branches : goal.returns-in-Some-clause-branches
returns-in-Some-clause-branches c =
    by_last c.branch-asm.result c.branch-asm.ensures.parts
    (λ h.
    let o = c.in-Some.other in
    let a = c.args.first in
    let b = c.args.second in
    rw h
    (adds_weaker (adds_part c.args.asm.now.parts (Branch o b a c.args.to) 3 (omega arith)) (omega arith)
    (λ x from to does. turned_branch x c.args.to from to a b c.args.comparison o (sym c.turned.ensures ∙ c.in-Some.is) does)))

pub returns-in-None-clause-branches : goal.returns-in-None-clause-branches
returns-in-None-clause-branches c =
    by_last c.branch-asm-in-None.result c.branch-asm-in-None.ensures.parts
    (λ h.
    let a = c.args.first in
    let b = c.args.second in
    rw h
    (adds_weaker (adds_part c.args.asm.now.parts (Branch c.args.comparison a b c.args.to) 3 (omega arith)) (omega arith)
    (λ x from to does. straight_branch x c.args.to from to a b c.args.comparison (sym c.turned.ensures ∙ c.in-None.is) does)))
