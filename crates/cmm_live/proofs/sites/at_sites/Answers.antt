use Rattle.std.proofs.Common.{List, [], ◌≡◌, ◌<◌, Some, length, get_or, ◌∙◌, sym, ap, subst, arith}
use Rattle.std.proofs.lemmas.List.{get_or_read, length-set}
use Rattle.cmm_bitset.specs.Sets.{union}
use Rattle.cmm_graph.specs.declared.number.NodeId.{NodeId}
use Rattle.cmm_graph.specs.declared.node.Node.{Node}
use Rattle.cmm_live.specs.Exact.{set_at}
use Rattle.cmm_live.specs.Sites.{site_of}
use Rattle.cmm_live.specs.inside.Unions.{IsUnionOf}
use Rattle.cmm_live.proofs.Gathering.{gathered_more, gathered_skip}
use Rattle.cmm_live.proofs.sites.at_sites.Goals.{in-Some+in_ok-to+in_ok-live, in_default}
use Rattle.cmm_live.proofs.sites.at_sites.Goals as goal

pub loop-node-preserved : goal.loop-node-preserved
loop-node-preserved c =
    let g = c.args.g.now in
    let i = c.loop-node.node-index in
    let sets = c.loop-node.sets.items in
    let node = c.node-item.result in
    let low : i < length g.nodes = omega (arith, c.loop-node-test.true, ap length c.as_slice-nodes.ensures) in
    let is : node ≡ get_or g.nodes i node = c.node-item.is ∙ ap (λ (ns : List Node). get_or ns i node) c.as_slice-nodes.ensures in
    elim c.match-site_of.branch [
      | in-Some+in_ok-to+in_ok-live w ↦
          let site = w.in-Some.site in
          let waits : site_of node.kind ≡ Some site = sym c.site_of.ensures ∙ w.in-Some.is in
          let within : site.number < length sets = c.loop-node.invariant.listed i node low site (ap (λ (n : Node). site_of n.kind) (sym is) ∙ waits) in
          let was : w.index_mut.result.now ≡ set_at sets site.number = get_or_read sets site.number w.index_mut.result.now within w.index_mut.ensures.value [] in
          rw (w.sets-is, w.join.ensures.joined, was) (record {
            listed = λ k d in_k s e. omega (arith, c.loop-node.invariant.listed k d in_k s e, length-set sets site.number (union (set_at sets site.number) w.in_ok-live.live));
            gathered = gathered_more g c.args.before.now c.args.ways sets i node site w.in_ok-live.live low is waits within
                (subst (λ (ns : List NodeId). IsUnionOf g c.args.before.now ns w.in_ok-live.live) (w.as_slice.ensures ∙ w.in_ok-to.ensures) w.in_ok-live.ensures)
                c.loop-node.invariant.gathered;
          })
      | in_default w ↦ rw w.sets-is (record {
        listed = c.loop-node.invariant.listed;
        gathered = gathered_skip g c.args.before.now c.args.ways sets i node low is (sym c.site_of.ensures ∙ w.in_default.is) c.loop-node.invariant.gathered;
      })
    ]
