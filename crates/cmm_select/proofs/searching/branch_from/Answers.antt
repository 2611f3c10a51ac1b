use Rattle.std.proofs.Common.{arith}
use Rattle.cmm_words.specs.declared.operators.Cmp.TheVariants.{Geu}
use Rattle.rv_asm.specs.declared.part.Part.TheVariants.{Branch}
use Rattle.cmm_effects.proofs.Shared.{adds_part, adds_then, adds_weaker, by_last}
use Rattle.cmm_select.proofs.Constants.{eight_at_most}
use Rattle.cmm_select.proofs.Halving.{goes_from}
use Rattle.cmm_select.specs.Operands.{most_for_number}
use Rattle.cmm_select.proofs.searching.branch_from.Goals as goal

pub returns-clause-turns : goal.returns-clause-turns
returns-clause-turns c =
    by_last c.branch-asm.result c.branch-asm.ensures.parts
    (λ h.
    let n = c.args.number in
    let few = eight_at_most n in
    rw h
    (adds_weaker (adds_then c.in_ok-load_constant.ensures.sets (adds_part c.load_constant.new.asm.parts (Branch Geu 5 7 c.args.to) 3 (omega arith))) (omega (arith, few))
    (λ x from on does. goes_from x from on (most_for_number n) n c.args.to few does)))
