use Rattle.std.proofs.Common.{◌≡◌, ◌==◌, ◌+◌, ◌-◌, drop, get_or, refl, sym, ap, ◌∙◌, subst, arith}
use Rattle.std.specs.List.{list_any}
use Rattle.cmm_limits.specs.inside.InForce.{HasTokens, one_more}
use Rattle.cmm_limits.proofs.Spans.{more_around}
use Rattle.cmm_limits.proofs.span_tokens.add_around.Goals as goal

pub loop-index-preserved : goal.loop-index-preserved
loop-index-preserved c =
    let around = c.args.around.now in
    let i = c.loop-index.index - 1 in
    let token = get_or around i 0 in
    let next : c.loop-index.index ≡ i + 1 = omega arith in
    subst (λ ts. HasTokens ts c.with_one_more-different.result (drop i around)) (sym c.in_ok-push.ensures.ok)
    (more_around c.loop-index.tokens c.loop-index.different around i token c.with_one_more-different.result (omega arith) refl
    (c.with_one_more-different.ensures ∙ ap (λ ts. one_more (list_any (λ t. t == token) ts) c.loop-index.different) c.as_slice.ensures)
    (subst (λ n. HasTokens c.loop-index.tokens c.loop-index.different (drop n around)) next c.loop-index.invariant))
