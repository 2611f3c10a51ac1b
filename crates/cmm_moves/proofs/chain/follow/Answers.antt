use Rattle.std.proofs.Common.{◌≡◌, [], ◌∷◌, ◌++◌, sym, ap, subst, ◌∙◌}
use Rattle.cmm_moves.specs.inside.Pending.{IsFollowed, saved, redirected}
use Rattle.cmm_moves.proofs.Paths.{pushed, settled}
use Rattle.cmm_moves.proofs.chain.follow.Goals as goal

pub loop-top-preserved-in-Continue-branch-3 : goal.loop-top-preserved-in-Continue-branch-3
loop-top-preserved-in-Continue-branch-3 c =
    let p = c.pop.new.self in
    let top = c.in-Some.top in
    let reader = c.in-Some-take_reader.reader in
    let path : c.push-in-Some-take_reader-2.new.self ≡ (p ++ top ∷ []) ++ reader ∷ [] =
    c.in_ok-push-in-Some-take_reader-2.ensures.ok ∙ ap (λ ms. ms ++ reader ∷ []) c.in_ok-push-in-Some-take_reader.ensures.ok in
    subst (λ ms. IsFollowed c.args.scratch c.args.first c.args.waiting.now.items c.args.done.now ms c.take_reader.new.waiting.items c.loop-top.done) (sym path)
    (pushed c.args.scratch c.args.first c.args.waiting.now.items c.args.done.now c.loop-top.path p c.loop-top.waiting.items c.take_reader.new.waiting.items c.loop-top.done top reader
    c.in-Some.ensures c.in-Some-take_reader.ensures c.loop-top.invariant)

pub loop-top-preserved : goal.loop-top-preserved
loop-top-preserved c =
    let p = c.pop.new.self in
    let top = c.in-Some.top in
    let scratch = c.args.scratch in
    let done : c.push-in-None.new.self ≡ (c.loop-top.done ++ saved top.to scratch p) ++ top ∷ [] =
    c.in_ok-push-in-None.ensures.ok ∙ ap (λ ms. ms ++ top ∷ []) c.in_ok-break_cycle-in-None.ensures.done in
    subst (λ ms. IsFollowed scratch c.args.first c.args.waiting.now.items c.args.done.now ms c.take_reader.new.waiting.items c.push-in-None.new.self) (sym c.in_ok-break_cycle-in-None.ensures.path)
    (subst (λ ms. IsFollowed scratch c.args.first c.args.waiting.now.items c.args.done.now (redirected top.to scratch p) ms c.push-in-None.new.self) (sym c.in-None.ensures.0)
    (subst (λ ms. IsFollowed scratch c.args.first c.args.waiting.now.items c.args.done.now (redirected top.to scratch p) c.loop-top.waiting.items ms) (sym done)
    (settled scratch c.args.first c.args.waiting.now.items c.args.done.now top c.loop-top.waiting.items c.in-None.ensures.1 c.loop-top.path p c.loop-top.done c.in-Some.ensures c.loop-top.invariant)))
