-- The nodes of a graph have tokens enough for what they do, wherever they lead.
use Rattle.std.proofs.Common.{◌≡◌, ℕ, ◌≤◌, IsTrue, Some, None, [], length, ap, sym, ◌∙◌, subst, arith}
use Rattle.std.proofs.lemmas.Bool.{and_parts}
use Rattle.std.proofs.lemmas.List.{length-append, length-map}
use Rattle.std.proofs.lemmas.Option.{get_or_from_slice_get, slice_get_within}
use Rattle.std.specs.List.{All}
use Rattle.cmm_program.proofs.Shared.{list_all_get}
use Rattle.cmm_program.specs.declared.procedure.Proc.{Proc}
use Rattle.cmm_graph.specs.declared.graph.Graph.{Graph}
use Rattle.cmm_graph.specs.declared.node.Exits.{Exits}
use Rattle.cmm_graph.specs.declared.node.Node.{Node}
use Rattle.cmm_graph.specs.declared.node.NodeKind.{NodeKind}
use Rattle.cmm_graph.specs.declared.node.NodeKind.TheVariants.{Call, Switch, Yield}
use Rattle.cmm_graph.specs.declared.number.ContinuationId.{ContinuationId}
use Rattle.cmm_graph.specs.declared.number.SiteId.{SiteId}
use Rattle.cmm_graph.specs.Counterpart.{AreExitsOf, HasSite}
use Rattle.cmm_graph.specs.Covering.{covers, least_tokens}
use Rattle.cmm_flow.specs.Flow.{AreCovered}
use Rattle.cmm_flow.specs.inside.Laying.{AreAsked, leads_on, passes}
use Rattle.cmm_flow.specs.inside.Nodes.{ranges_of, unled, unled_kind}
use Rattle.cmm_flow.proofs.Covering.{at_most, each_passes, test_at_most}
use Rattle.cmm_flow.proofs.Enough.{has_enough, least_unled, returns_at}

module _ (q : Proc) (g : Graph) where
  -- the exits of a site lead to as many continuations
  pub returns_many : (n : SiteId) (exits : Exits) → AreExitsOf q g n exits → length exits.returns ≡ returns_at q n.number
  returns_many n exits are =
      sym (length-map exits.returns (λ (k : ContinuationId). k.number)) ∙ ap length are.returns
      ∙ sym (ap (λ o. elim o as (λ _. ℕ) [ Some site ↦ length site.returns | None ↦ 0 ]) are.is_site)

  kind_least : (kind : NodeKind) → HasSite q g kind → least_tokens q.tokens kind ≤ least_unled q (unled_kind kind)
  kind_least (Switch value arms otherwise) site = omega (arith, length-append (ranges_of arms) [])
  kind_least (Call n callee arguments exits) site = omega (arith, returns_many n exits site)
  kind_least (Yield n values exits) site = omega (arith, returns_many n exits site)
  kind_least kind site = omega arith

  node_covered : (node : Node) → IsTrue (has_enough q (unled node)) → HasSite q g node.kind → IsTrue (covers q.tokens node)
  node_covered node is site =
      test_at_most (least_tokens q.tokens node.kind) node.tokens
      (omega (arith, at_most (least_unled q (unled_kind node.kind)) node.tokens is, kind_least node.kind site))

  pub nodes_covered : AreAsked record { test = has_enough q; graph = g } g.nodes → All (λ node. HasSite q g node.kind) g.nodes → AreCovered q g
  nodes_covered asked sites = each_passes (covers q.tokens) g.nodes (λ n node at.
      let less = slice_get_within g.nodes n node at in
      let site = subst (λ (node : Node). HasSite q g node.kind) (get_or_from_slice_get g.nodes n node node at) (sites n node less) in
      let whole = list_all_get (passes record { test = has_enough q; graph = g }) g.nodes n node asked at in
      node_covered node (and_parts (has_enough q (unled node)) (leads_on g node.kind) whole).0 site)
