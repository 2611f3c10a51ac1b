use Rattle.std.proofs.Common.{◌≤◌, arith, length, subst}
use Rattle.cmm_graph.specs.declared.graph.Graph.{Graph}
use Rattle.cmm_unit_code.specs.declared.unit_code.Reference.{Reference}
use Rattle.cmm_emit.specs.Mentions.{AddsNamed, graph_names}
use Rattle.cmm_emit.proofs.Mentioned.{adds_all, adds_more, adds_none, all_mentioned}
use Rattle.cmm_emit.proofs.mentions.mentions_of.Goals as goal

pub loop-graph-init : goal.loop-graph-init
loop-graph-init c = adds_none c.in_ok-found.found

pub loop-graph-preserved : goal.loop-graph-preserved
loop-graph-preserved c =
    adds_more (λ (x : Graph) (r : Reference). graph_names r x) c.args.graphs.now c.loop-graph.graph-index c.graph-item.result c.in_ok-found.found c.loop-graph.found c.add_graph.new.self c.loop-graph-test.true
    c.loop-graph.invariant (subst (λ (g : Graph). AddsNamed (λ r. graph_names r g) c.loop-graph.found c.add_graph.new.self) c.graph-item.is c.add_graph.ensures)

pub returns : goal.returns
returns c =
    let done : length c.args.graphs.now ≤ c.loop-graph.graph-index = omega (arith, c.loop-graph-test.false) in
    all_mentioned c.args.program.now c.args.graphs.now c.in_ok-found.found c.loop-graph.found c.in_ok-found.ensures
    (adds_all (λ (x : Graph) (r : Reference). graph_names r x) c.args.graphs.now c.loop-graph.graph-index c.in_ok-found.found c.loop-graph.found done c.loop-graph.invariant)
