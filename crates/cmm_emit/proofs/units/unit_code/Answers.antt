use Rattle.std.proofs.Common.{arith, length}
use Rattle.cmm_emit.proofs.Belonging.{share_counted}
use Rattle.cmm_emit.proofs.Layable.{can_all_be_laid, found_counted, graphs_counted, labels_fit, share_tokens}
use Rattle.cmm_emit.proofs.Meant.{have_labels, have_labels_in}
use Rattle.cmm_emit.specs.Outlines.{share}
use Rattle.cmm_emit.proofs.units.unit_code.Goals as goal

pub make_outline-requires-clause-graphs : goal.make_outline-requires-clause-graphs
make_outline-requires-clause-graphs c = graphs_counted c.args.program.now c.args.graphs.now c.args.places.now c.requires.range c.requires.flows c.requires.places c.hoisted_flows_pass_few.ensures.few c.hoisted_flows_are_graphs.ensures.graphs c.graphs_are_named.ensures

pub make_outline-requires-clause-places : goal.make_outline-requires-clause-places
make_outline-requires-clause-places c = found_counted c.args.program.now c.args.graphs.now c.args.places.now c.requires.range c.requires.flows c.requires.places c.hoisted_flows_pass_few.ensures.few c.hoisted_flows_are_graphs.ensures.graphs c.graphs_are_named.ensures

pub make_outline-requires-clause-few : goal.make_outline-requires-clause-few
make_outline-requires-clause-few c =
    labels_fit c.args.program.now c.args.graphs.now c.args.places.now c.requires.range c.requires.flows c.requires.places c.hoisted_flows_pass_few.ensures.few c.hoisted_flows_are_graphs.ensures.graphs c.graphs_are_named.ensures
    c.requires.short c.requires.labels c.args.first c.args.count c.requires.within

pub lay_code-requires-clause-outline : goal.lay_code-requires-clause-outline
lay_code-requires-clause-outline c = record {
  found = c.args.places.now;
  is_outline = c.in_ok-outline.ensures.made;
  can =
      can_all_be_laid c.args.program.now c.args.graphs.now c.args.places.now c.requires.range c.requires.flows c.requires.places c.hoisted_flows_pass_few.ensures.few c.hoisted_flows_are_graphs.ensures.graphs c.graphs_are_named.ensures
      c.in_ok-outline.outline c.in_ok-outline.ensures.made c.frames_are_laid.ensures.made c.hoisted_flows_wait_once.ensures.once c.requires.short;
}

pub lay_code-requires-clause-labels : goal.lay_code-requires-clause-labels
lay_code-requires-clause-labels c =
    let p = c.args.program.now in
    let graphs = c.args.graphs.now in
    let first = c.args.first in
    let count = c.args.count in
    let labels = c.make_outline.new.asm.labels in
    have_labels_in p graphs first count c.in_ok-outline.outline labels c.in_ok-outline.ensures.first c.in_ok-outline.ensures.count
    (have_labels (share first count p.procs) (share first count graphs) c.in_ok-outline.outline count (share_counted first count p.procs c.requires.within) labels
    c.in_ok-outline.ensures.labels)

pub finish_unit-requires : goal.finish_unit-requires
finish_unit-requires c =
    let p = c.args.program.now in
    let o = c.in_ok-outline.outline in
    let size = c.in_ok-lay_code.ensures.whole.size in
    let tokens = c.requires.range.tokens in
    record { room = omega (arith, size, tokens, share_tokens o.first (length o.contexts) p.procs) }
