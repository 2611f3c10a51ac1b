use Rattle.std.proofs.Common.{Bool, List, false, ◌≡◌, ◌<◌, get_or, length, sym, ap, ◌∙◌, subst, arith}
use Rattle.std.proofs.lemmas.List.{length-replicate}
use Rattle.cmm_graph.specs.declared.node.Node.{Node}
use Rattle.cmm_live.specs.Locals.{local_count}
use Rattle.cmm_allocate.specs.Classes.{leads_past_cut}
use Rattle.cmm_allocate.specs.inside.Classing.{HasTaken}
use Rattle.cmm_allocate.proofs.Classing.{past_more, sized_before}
use Rattle.cmm_allocate.proofs.classes.past_cuts.Goals as goal

pub join_past_cut-requires : goal.join_past_cut-requires
join_past_cut-requires c k d low =
    let same = c.as_slice-before.ensures in
    ap (λ (s : List (List Bool)). length (get_or s k d)) same
    ∙ (sized_before c.args.g.now c.args.live.now c.requires.live k d (subst (λ (s : List (List Bool)). k < length s) same low)
    ∙ sym (c.loop-node.invariant.size_is ∙ length-replicate (local_count c.args.g.now) false))

pub loop-node-preserved : goal.loop-node-preserved
loop-node-preserved c =
    let g = c.args.g.now in
    let before = c.args.live.now.before in
    let i = c.loop-node.node-index in
    let node = c.node-item.result in
    let low : i < length g.nodes = omega (arith, c.loop-node-test.true, ap length c.as_slice-node-items.ensures) in
    let is : node ≡ get_or g.nodes i node = c.node-item.is ∙ ap (λ (ns : List Node). get_or ns i node) c.as_slice-node-items.ensures in
    past_more g before g.nodes i node _ c.loop-node.all c.join_past_cut.new.all low is
    (subst (λ (s : List (List Bool)). HasTaken (leads_past_cut g s node) c.loop-node.all c.join_past_cut.new.all) c.as_slice-before.ensures c.in_ok-join_past_cut.ensures) c.loop-node.invariant
