use Rattle.std.proofs.Common.{◌<◌, refl, sym, subst, arith, length, IsTrue}
use Rattle.std.proofs.lemmas.List.Elements.{All-weaker}
use Rattle.cmm_graph.specs.declared.number.NodeId.{NodeId}
use Rattle.cmm_emit.specs.Naming.{has_node}
use Rattle.std.proofs.lemmas.Bool.Decides.{nat_tests}
use Rattle.rv_asm.specs.declared.part.Meaning.{Meaning}
use Rattle.std.proofs.Common.{List}
use Rattle.cmm_emit.specs.LaidNodes.{PlacesOwn}
use Rattle.cmm_effects.proofs.Shared.{by_last}
use Rattle.cmm_emit.proofs.Advancing.{are_laid, are_unplaced, codes_next, have_sites, is_ready, labels_next, nodes_counted}
use Rattle.cmm_emit.proofs.Closing.{one_read}
use Rattle.cmm_emit.specs.Outlines.{own}
use Rattle.cmm_emit.proofs.procedure_code.lay_procedure.Goals as goal

pub lay_nodes-requires : goal.lay_nodes-requires
lay_nodes-requires c =
    let p = c.args.program.now in
    let o = c.args.outline.now in
    let procs = own o p.procs in
    let graphs = own o c.args.graphs.now in
    let found = own o c.requires.outline.found in
    let g = c.index-graphs-outline.result in
    let one = one_read p c.args.graphs.now c.requires.outline.found o c.requires.outline.is_outline c.requires.outline.can c.args.number c.requires.number c.as_slice.result.now c.index-as_slice-number.result
    c.as_slice.ensures c.index-as_slice-number.is c.args.graphs.now g refl c.index-graphs-outline.is in
    record {
      ready = is_ready p procs graphs found o c.requires.outline.is_outline c.requires.outline.can c.args.number g one c.args.asm.now.labels c.requires.labels;
      laid = are_laid p procs graphs found o c.requires.outline.is_outline c.requires.outline.can c.args.number g one c.args.asm.now.labels c.requires.labels;
      size = nodes_counted p procs graphs found o c.requires.outline.is_outline c.requires.outline.can c.args.number g one c.args.asm.now.labels c.requires.labels;
      few =
          let few = c.requires.outline.is_outline.contexts.few c.args.number g one.is_graph in
          omega (arith, few);
      kinds = one.can.kinds;
      first =
          let inside = one.can.first in
          let count = nodes_counted p procs graphs found o c.requires.outline.is_outline c.requires.outline.can c.args.number g one c.args.asm.now.labels c.requires.labels in
          let less : g.first.number < length one.context.nodes = omega (arith, inside, count) in
          grind (arith, nat_tests, less);
      landings =
          let count = nodes_counted p procs graphs found o c.requires.outline.is_outline c.requires.outline.can c.args.number g one c.args.asm.now.labels c.requires.labels in
          All-weaker (λ (n : NodeId). n.number < length g.nodes) (λ (n : NodeId). IsTrue (has_node one.context n))
          (λ n inside. let less : n.number < length one.context.nodes = omega (arith, inside, count) in grind (arith, nat_tests, less)) g.continuations one.can.landings;
      sites = have_sites p procs graphs found o c.requires.outline.is_outline c.requires.outline.can c.args.number g one c.args.asm.now.labels c.requires.labels;
      unplaced = are_unplaced p procs graphs found o c.requires.outline.is_outline c.requires.outline.can c.args.number g one c.args.asm.now.labels c.requires.labels;
      once = one.can.once;
    }

pub returns-clause-labels : goal.returns-clause-labels
returns-clause-labels c =
    by_last c.close.result c.close.ensures.parts
    (λ h.
    let p = c.args.program.now in
    let o = c.args.outline.now in
    let procs = own o p.procs in
    let graphs = own o c.args.graphs.now in
    let found = own o c.requires.outline.found in
    let g = c.index-graphs-outline.result in
    let one = one_read p c.args.graphs.now c.requires.outline.found o c.requires.outline.is_outline c.requires.outline.can c.args.number c.requires.number c.as_slice.result.now c.index-as_slice-number.result
    c.as_slice.ensures c.index-as_slice-number.is c.args.graphs.now g refl c.index-graphs-outline.is in
    let places = subst (λ (ms : List Meaning). PlacesOwn one.context c.args.asm.now.labels ms) (sym c.close.ensures.labels) c.in_ok-lay_nodes.ensures.places in
    labels_next p procs graphs found o c.requires.outline.is_outline c.requires.outline.can c.args.number g one c.args.asm.now.labels c.requires.labels c.close.new.asm.labels places)

pub returns-clause-codes : goal.returns-clause-codes
returns-clause-codes c =
    by_last c.close.result c.close.ensures.parts
    (λ h.
    let p = c.args.program.now in
    let o = c.args.outline.now in
    let procs = own o p.procs in
    let graphs = own o c.args.graphs.now in
    let found = own o c.requires.outline.found in
    let g = c.index-graphs-outline.result in
    let one = one_read p c.args.graphs.now c.requires.outline.found o c.requires.outline.is_outline c.requires.outline.can c.args.number c.requires.number c.as_slice.result.now c.index-as_slice-number.result
    c.as_slice.ensures c.index-as_slice-number.is c.args.graphs.now g refl c.index-graphs-outline.is in
    codes_next p procs graphs found o c.requires.outline.is_outline c.requires.outline.can c.args.number g one c.args.asm.now.labels c.requires.labels c.args.asm.now.parts c.lay_nodes.new.asm.parts c.close.new.asm.parts c.requires.codes c.placed_labels.ensures c.in_ok-lay_nodes.ensures.added
    c.in_ok-lay_nodes.ensures.code c.in_ok-lay_nodes.ensures.sites h c.in_ok-lay_nodes.ensures.size)
