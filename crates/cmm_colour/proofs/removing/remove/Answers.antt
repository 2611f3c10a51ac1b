use Rattle.std.proofs.Common.{◌≡◌, ◌<◌, ◌≤◌, [], ℕ, List, length, get_or, take, sym, ◌∙◌, subst, arith}
use Rattle.std.proofs.lemmas.List.{get_or_default, take_all}
use Rattle.cmm_ilist.specs.NodeLists.{NodeLists}
use Rattle.cmm_colour.specs.Graphs.{row}
use Rattle.cmm_colour.specs.inside.Removing.{IsLeft, IsTelling}
use Rattle.cmm_colour.proofs.Ordering.{there_is_new}
use Rattle.cmm_colour.proofs.Telling.{next_joined, next_untold, shown_without, some_left, step_told, told_all, told_none}
use Rattle.cmm_colour.proofs.removing.remove.Goals as goal

pub loop-neighbour-init : goal.loop-neighbour-init
loop-neighbour-init c =
    subst (λ (s : NodeLists). IsTelling c.args.rows.now c.args.k c.args.order.now c.args.node [] c.args.degrees.now.items s)
    (shown_without c.args.node c.args.lists.now c.unlink.new.self c.unlink.ensures.nodes c.unlink.ensures.lists)
    (told_none c.args.rows.now c.args.k c.requires.simple c.args.order.now c.args.degrees.now.items c.args.lists.now c.args.node c.requires.left c.requires.there)

pub lower-requires-clause-node : goal.lower-requires-clause-node
lower-requires-clause-node c =
    let rows = c.args.rows.now in
    let v = c.args.node in
    let low_v : v < length rows = c.requires.left.within v c.requires.there in
    let items = c.as_slice-neighbour-items.result.now in
    let is : items ≡ row rows v = c.as_slice-neighbour-items.ensures ∙ c.index-rows-node.is ∙ get_or_default rows v c.index-rows-node.result [] low_v in
    let low : get_or items c.loop-neighbour.neighbour-index 0 < length rows = c.requires.simple.undirected.within v (get_or items c.loop-neighbour.neighbour-index 0)
    (next_joined rows v c.loop-neighbour.neighbour-index items is c.loop-neighbour-test.true) in
    omega (arith, low, c.loop-neighbour.invariant.sizes)

pub lower-requires-clause-some : goal.lower-requires-clause-some
lower-requires-clause-some c = λ there.
    let rows = c.args.rows.now in
    let v = c.args.node in
    let low_v : v < length rows = c.requires.left.within v c.requires.there in
    let items = c.as_slice-neighbour-items.result.now in
    let is : items ≡ row rows v = c.as_slice-neighbour-items.ensures ∙ c.index-rows-node.is ∙ get_or_default rows v c.index-rows-node.result [] low_v in
    let fresh = there_is_new rows c.args.k c.args.order.now c.args.degrees.now.items c.args.lists.now v c.requires.left c.requires.there in
    some_left rows c.args.k c.requires.simple c.args.order.now v (take c.loop-neighbour.neighbour-index (row rows v)) c.loop-neighbour.degrees.items c.loop-neighbour.lists
    (get_or items c.loop-neighbour.neighbour-index 0) c.loop-neighbour.invariant fresh (next_joined rows v c.loop-neighbour.neighbour-index items is c.loop-neighbour-test.true)
    (next_untold rows v c.loop-neighbour.neighbour-index items is c.loop-neighbour-test.true (c.requires.simple.distinct v)) there

pub loop-neighbour-preserved : goal.loop-neighbour-preserved
loop-neighbour-preserved c =
    let rows = c.args.rows.now in
    let v = c.args.node in
    let low_v : v < length rows = c.requires.left.within v c.requires.there in
    let items = c.as_slice-neighbour-items.result.now in
    let is : items ≡ row rows v = c.as_slice-neighbour-items.ensures ∙ c.index-rows-node.is ∙ get_or_default rows v c.index-rows-node.result [] low_v in
    let fresh = there_is_new rows c.args.k c.args.order.now c.args.degrees.now.items c.args.lists.now v c.requires.left c.requires.there in
    step_told rows c.args.k c.args.order.now v c.loop-neighbour.neighbour-index items c.loop-neighbour.degrees.items c.lower.new.degrees.items c.loop-neighbour.lists c.lower.new.lists c.requires.simple
    fresh is c.loop-neighbour-test.true c.loop-neighbour.invariant c.lower.ensures.degrees c.lower.ensures.nodes c.lower.ensures.lists

pub returns-clause-left : goal.returns-clause-left
returns-clause-left c =
    let rows = c.args.rows.now in
    let v = c.args.node in
    let low_v : v < length rows = c.requires.left.within v c.requires.there in
    let items = c.as_slice-neighbour-items.result.now in
    let is : items ≡ row rows v = c.as_slice-neighbour-items.ensures ∙ c.index-rows-node.is ∙ get_or_default rows v c.index-rows-node.result [] low_v in
    let fresh = there_is_new rows c.args.k c.args.order.now c.args.degrees.now.items c.args.lists.now v c.requires.left c.requires.there in
    let i = c.loop-neighbour.neighbour-index in
    let all : take i (row rows v) ≡ row rows v = take_all i (row rows v) (subst (λ (l : List ℕ). length l ≤ i) is c.loop-neighbour-test.false) in
    subst (λ (o : List ℕ). IsLeft rows c.args.k o c.loop-neighbour.degrees.items c.loop-neighbour.lists) (sym c.in_ok-push.ensures.ok)
    (told_all rows c.args.k c.requires.simple c.args.order.now c.loop-neighbour.degrees.items c.loop-neighbour.lists v low_v fresh c.requires.left.once c.requires.left.gone_within
    (subst (λ (l : List ℕ). IsTelling rows c.args.k c.args.order.now v l c.loop-neighbour.degrees.items c.loop-neighbour.lists) all c.loop-neighbour.invariant))
