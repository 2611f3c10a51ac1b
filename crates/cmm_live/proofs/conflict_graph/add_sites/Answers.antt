use Rattle.std.proofs.Common.{List, Bool, ℕ, [], ◌+◌, ◌∷◌, ◌++◌, ◌≡◌, length, take, sym, ap, ◌∙◌, subst, arith}
use Rattle.std.proofs.lemmas.List.{take_more}
use Rattle.cmm_live.specs.inside.Interfering.{TakeIn, is_one_of}
use Rattle.cmm_live.proofs.Interfering.{sites_more}
use Rattle.cmm_live.proofs.Pairing.{member_below}
use Rattle.cmm_live.proofs.conflict_graph.add_sites.Goals as goal

pub take_in-requires-clause-within : goal.take_in-requires-clause-within
take_in-requires-clause-within c k d low =
    let site = c.set-item.result in
    let below = member_below site c.deref.result.now k d (c.deref.ensures.value ∙ c.in_ok-numbers.ensures) low in
    let sized : length site ≡ length c.args.rows.now.items = ap (λ (s : List Bool). length s) c.set-item.is ∙ c.requires.sized c.loop-set.set-index site c.loop-set-test.true in
    omega (arith, below, sized, c.loop-set.invariant.are_rows.size)

pub loop-set-preserved : goal.loop-set-preserved
loop-set-preserved c =
    let site = c.set-item.result in
    let sites = c.args.sites.now in
    let i = c.loop-set.set-index in
    let next : take (i + 1) sites ≡ take i sites ++ site ∷ [] = take_more sites i site c.loop-set-test.true ∙ ap (λ y. take i sites ++ y ∷ []) (sym c.set-item.is) in
    rw next (sites_more (length c.args.rows.now.items) (take i sites) site c.args.rows.now.items c.loop-set.rows.items c.take_in.new.rows.items c.loop-set.invariant
    (subst (λ (l : List ℕ). TakeIn (length c.args.rows.now.items) (is_one_of l) site c.loop-set.rows.items c.take_in.new.rows.items) (c.deref.ensures.value ∙ c.in_ok-numbers.ensures)
    (subst (λ n. TakeIn n (is_one_of c.deref.result.now) site c.loop-set.rows.items c.take_in.new.rows.items) c.loop-set.invariant.are_rows.size c.take_in.ensures)))
