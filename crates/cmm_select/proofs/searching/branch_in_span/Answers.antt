use Rattle.std.proofs.Common.{◌-◌, sym, arith}
use Rattle.cmm_words.specs.declared.operators.Cmp.TheVariants.{Eq, Geu}
use Rattle.rv_asm.specs.declared.part.Part.TheVariants.{Branch}
use Rattle.cmm_effects.proofs.Shared.{adds_none, adds_part, adds_then, adds_weaker, by_last}
use Rattle.cmm_select.proofs.Constants.{eight_at_most}
use Rattle.cmm_select.proofs.Ranging.{goes_at, goes_in_range, goes_past}
use Rattle.cmm_select.specs.Operands.{most_for_number}
use Rattle.cmm_select.proofs.searching.branch_in_span.Goals as goal

pub returns-then-to-from-clause-goes : goal.returns-then-to-from-clause-goes
returns-then-to-from-clause-goes c =
    adds_weaker (adds_none c.args.asm.now.parts) (omega arith) (λ x from on is. goes_past x from on c.args.span.now c.if-to-from.true is)

pub returns-then-to-from-2-clause-goes : goal.returns-then-to-from-2-clause-goes
returns-then-to-from-2-clause-goes c =
    by_last c.branch-asm.result c.branch-asm.ensures.parts
    (λ h.
    let r = c.args.span.now in
    let few = eight_at_most r.from in
    rw h
    (adds_weaker (adds_then c.in_ok-load_constant.ensures.sets (adds_part c.load_constant.new.asm.parts (Branch Eq 5 7 r.label) 3 (omega arith))) (omega (arith, few))
    (λ x from on does. goes_at x from on r (most_for_number r.from) few (sym c.if-to-from-2.true) does)))

pub returns-clause-goes : goal.returns-clause-goes
returns-clause-goes c =
    by_last c.branch-asm-2.result c.branch-asm-2.ensures.parts
    (λ h.
    let r = c.args.span.now in
    let n = r.to - r.from in
    let few = eight_at_most n in
    rw h
    (adds_weaker
    (adds_then c.in_ok-measure.ensures.measures
    (adds_then c.in_ok-load_constant-2.ensures.sets (adds_part c.load_constant-2.new.asm.parts (Branch Geu 6 7 r.label) 3 (omega arith))))
    (omega (arith, few))
    (λ x from on does. goes_in_range x from on r (most_for_number n) (omega (arith, c.if-to-from.false)) (omega arith) few does)))
