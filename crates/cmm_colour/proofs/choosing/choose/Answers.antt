use Rattle.std.proofs.Common.{◌≡◌, ◌<◌, ◌-◌, [], ℕ, List, Option, length, get_or, ap, sym, ◌∙◌, subst, arith}
use Rattle.std.proofs.lemmas.List.{get_or_default}
use Rattle.cmm_ilist.specs.NodeLists.{has}
use Rattle.cmm_colour.proofs.Chosen.{choose_next, node_within}
use Rattle.cmm_colour.proofs.choosing.choose.Goals as goal

pub bounds-rows-node : goal.bounds-rows-node
bounds-rows-node c =
    subst (λ (l : List ℕ). get_or l (c.loop-left.left - 1) 0 < length c.args.rows.now) (sym c.as_slice.ensures)
    (node_within c.args.rows.now c.args.k c.args.removed.now.order c.args.removed.now.peeled c.loop-left.left c.requires.removed c.loop-left-test.true c.loop-left.invariant.front)

pub take_colours-requires-clause-nodes : goal.take_colours-requires-clause-nodes
take_colours-requires-clause-nodes c = λ w there.
    let rows = c.args.rows.now in
    let v = get_or c.as_slice.result.now (c.loop-left.left - 1) 0 in
    let low_v : v < length rows = subst (λ (l : List ℕ). get_or l (c.loop-left.left - 1) 0 < length rows) (sym c.as_slice.ensures)
    (node_within rows c.args.k c.args.removed.now.order c.args.removed.now.peeled c.loop-left.left c.requires.removed c.loop-left-test.true c.loop-left.invariant.front) in
    let is = c.as_slice-in-loop-left.ensures ∙ c.index-rows-node.is ∙ get_or_default rows v c.index-rows-node.result [] low_v in
    let low : w < length rows = c.requires.simple.undirected.within v w (ap (λ (l : List ℕ). has w l) (sym is) ∙ there) in
    let same : length c.deref.result.now ≡ length c.loop-left.colours.items = ap (λ (l : List (Option ℕ)). length l) c.deref.ensures.value in
    omega (arith, low, same, c.loop-left.invariant.chosen.size)

pub index_mut-requires : goal.index_mut-requires
index_mut-requires c =
    let low_v : get_or c.as_slice.result.now (c.loop-left.left - 1) 0 < length c.args.rows.now = subst (λ (l : List ℕ). get_or l (c.loop-left.left - 1) 0 < length c.args.rows.now) (sym c.as_slice.ensures)
    (node_within c.args.rows.now c.args.k c.args.removed.now.order c.args.removed.now.peeled c.loop-left.left c.requires.removed c.loop-left-test.true c.loop-left.invariant.front) in
    omega (arith, low_v, c.loop-left.colours.ok, c.loop-left.invariant.chosen.size)

pub loop-left-preserved : goal.loop-left-preserved
loop-left-preserved c =
    let rows = c.args.rows.now in
    let v = get_or c.as_slice.result.now (c.loop-left.left - 1) 0 in
    let low_v : v < length rows = subst (λ (l : List ℕ). get_or l (c.loop-left.left - 1) 0 < length rows) (sym c.as_slice.ensures)
    (node_within rows c.args.k c.args.removed.now.order c.args.removed.now.peeled c.loop-left.left c.requires.removed c.loop-left-test.true c.loop-left.invariant.front) in
    record {
      front = omega (arith, c.loop-left.invariant.front);
      size = c.take_colours.ensures.size ∙ c.loop-left.invariant.size;
      chosen = choose_next rows c.args.k c.args.removed.now.order c.args.removed.now.peeled c.loop-left.left v c.loop-left.colours.items c.as_slice-in-loop-left.result.now c.deref.result.now
          (length c.loop-left.taken.items) c.take_colours.new.taken.items c.deref-in-loop-left.result.now c.pick.result c.requires.simple c.requires.removed c.loop-left-test.true c.loop-left.invariant.front
          (ap (λ (l : List ℕ). get_or l (c.loop-left.left - 1) 0) c.as_slice.ensures) c.loop-left.invariant.chosen
          (c.as_slice-in-loop-left.ensures ∙ c.index-rows-node.is ∙ get_or_default rows v c.index-rows-node.result [] low_v)
          c.deref.ensures.value c.loop-left.invariant.size c.take_colours.ensures c.deref-in-loop-left.ensures.value c.pick.ensures;
    }
