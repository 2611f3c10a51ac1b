use Rattle.std.proofs.Common.{sym, ap, ◌∙◌, subst, [], ◌∷◌, ◌++◌, take}
use Rattle.cmm_ast.specs.declared.statement.Actual.{Actual}
use Rattle.cmm_elaboration.specs.Resolving.{value_of, values_of}
use Rattle.cmm_static_semantics.proofs.Shared.{mapped_next}
use Rattle.cmm_typing.specs.Resolved.{AlignmentsFit}
use Rattle.cmm_lower_parts.proofs.values.values_of.Goals as goal

pub loop-actual-preserved : goal.loop-actual-preserved
loop-actual-preserved g c = λ fits.
    let n = g.N.Names.senses c.args.names.now in let xs = c.args.actuals.now in let i = c.loop-actual.actual-index in let x = c.actual-item.result in
    let fit : AlignmentsFit x.value = subst (λ (a : Actual). AlignmentsFit a.value) (sym c.actual-item.is) (fits i x c.loop-actual-test.true) in
    c.in_ok-push.ensures.ok ∙ ap (λ q. q ++ c.in_ok-value.value ∷ []) (c.loop-actual.invariant fits) ∙ ap (λ v. values_of n (take i xs) ++ v ∷ []) (c.in_ok-value.ensures fit)
    ∙ sym (mapped_next (λ (a : Actual). value_of n a.value) xs i x c.loop-actual-test.true c.actual-item.is)
