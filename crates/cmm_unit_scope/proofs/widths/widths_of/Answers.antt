use Rattle.std.proofs.Common.{◌≡◌, ◌<◌, ◌∙◌, List, ℕ, Some, None, refl, map, ap, sym, subst, take, length, get_or, ◌+◌, arith}
use Rattle.std.proofs.lemmas.List.{length-map, length-set, take_all}
use Rattle.cmm_symbols.specs.Numbering.{numbering}
use Rattle.cmm_symbols.specs.Shown.{shown, entry_shown}
use Rattle.cmm_symbols.specs.declared.table.Named.{Named}
use Rattle.cmm_symbols.specs.declared.entry.Entry.{Entry}
use Rattle.cmm_digraph.specs.Graphs.{is_graph}
use Rattle.cmm_digraph.proofs.Shared.{AreSet}
use Rattle.cmm_unit_scope.specs.Numbers.{entry_at}
use Rattle.cmm_unit_scope.specs.inside.Numbers.{entry_by, width_at}
use Rattle.cmm_unit_scope.proofs.Evaluated.{graph_is, widths_next, widths_done, widths_settled, node_below, peeled_as, final}
use Rattle.cmm_unit_scope.proofs.Meanings.{entry_listed}
use Rattle.cmm_unit_scope.proofs.widths.widths_of.Goals as goal

pub peel-requires : goal.peel-requires
peel-requires c =
    let ds = map shown c.args.table.now.declared in
    ap is_graph (c.as_slice.ensures ∙ c.in_ok-graph.ensures) ∙ graph_is (numbering ds) ds refl

pub loop-node-preserved : goal.loop-node-preserved
loop-node-preserved c =
    let ds = map shown c.args.table.now.declared in
    let numbers = numbering ds in
    let order = c.as_slice-node-items.result.now in
    let k = c.loop-node.node-index in
    let read = c.as_slice-declared.result.now in
    let d = c.index-declared-node.result in
    let peeled = peeled_as c.as_slice.result.now _ c.in_ok-peeled.peeled.order order c.in_ok-peeled.peeled.left (c.as_slice.ensures ∙ c.in_ok-graph.ensures) c.as_slice-node-items.ensures c.in_ok-peeled.ensures in
    let lt : k < length order = c.loop-node-test.true in
    let below : get_or order k 0 < length ds = node_below numbers ds order c.in_ok-peeled.peeled.left k peeled lt in
    let count : length ds ≡ length c.args.table.now.declared = length-map c.args.table.now.declared shown in
    let same : length read ≡ length c.args.table.now.declared = ap length c.as_slice-declared.ensures in
    let size : length c.loop-node.widths ≡ length read = c.loop-node.invariant.0 in (
      ap length c.set.ensures ∙ length-set c.loop-node.widths (get_or order k 0) c.entry_by-width.result ∙ size,
      subst (λ q. AreSet (final ds) None (take (k + 1) order) q) (sym c.set.ensures)
          (widths_next numbers ds order c.in_ok-peeled.peeled.left k c.loop-node.widths (entry_shown d.what) c.entry_by-width.result refl peeled lt (omega arith) c.loop-node.invariant.1
          (subst (λ (q : List (Named Entry)). entry_at (map shown q) (get_or order k 0) ≡ Some (entry_shown d.what)) c.as_slice-declared.ensures
          (entry_listed read (get_or order k 0) d (omega arith) c.index-declared-node.is))
          (c.entry_by-width.ensures ∙ ap (λ (n : Named Entry). entry_by (width_at c.loop-node.widths) numbers (entry_shown n.what)) (sym c.index-declared-node.is))),
    )

pub returns-clause-widths : goal.returns-clause-widths
returns-clause-widths c =
    let ds = map shown c.args.table.now.declared in
    let numbers = numbering ds in
    let order = c.as_slice-node-items.result.now in
    let k = c.loop-node.node-index in
    let peeled = peeled_as c.as_slice.result.now _ c.in_ok-peeled.peeled.order order c.in_ok-peeled.peeled.left (c.as_slice.ensures ∙ c.in_ok-graph.ensures) c.as_slice-node-items.ensures c.in_ok-peeled.ensures in
    let count : length ds ≡ length c.args.table.now.declared = length-map c.args.table.now.declared shown in
    widths_done numbers ds order c.in_ok-peeled.peeled.left c.loop-node.widths refl peeled (c.loop-node.invariant.0 ∙ ap length c.as_slice-declared.ensures ∙ sym count)
    (subst (λ (q : List ℕ). AreSet (final ds) None q c.loop-node.widths) (take_all k order c.loop-node-test.false) c.loop-node.invariant.1)

pub returns-clause-settled : goal.returns-clause-settled
returns-clause-settled c =
    let ds = map shown c.args.table.now.declared in
    let numbers = numbering ds in
    let order = c.as_slice-node-items.result.now in
    let k = c.loop-node.node-index in
    let peeled = peeled_as c.as_slice.result.now _ c.in_ok-peeled.peeled.order order c.in_ok-peeled.peeled.left (c.as_slice.ensures ∙ c.in_ok-graph.ensures) c.as_slice-node-items.ensures c.in_ok-peeled.ensures in
    let count : length ds ≡ length c.args.table.now.declared = length-map c.args.table.now.declared shown in
    widths_settled numbers ds order c.in_ok-peeled.peeled.left c.loop-node.widths refl peeled (c.loop-node.invariant.0 ∙ ap length c.as_slice-declared.ensures ∙ sym count)
    (subst (λ (q : List ℕ). AreSet (final ds) None q c.loop-node.widths) (take_all k order c.loop-node-test.false) c.loop-node.invariant.1)
