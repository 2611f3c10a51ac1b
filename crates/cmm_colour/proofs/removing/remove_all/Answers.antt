use Rattle.std.proofs.Common.{◌≡◌, ◌<◌, ◌≤◌, ◌-◌, ◌++◌, ◌∷◌, [], ℕ, List, length, take, sym, ap, ◌∙◌, subst, arith}
use Rattle.std.proofs.lemmas.List.{length_push, take_all, take-append-le}
use Rattle.cmm_colour.specs.inside.Removing.{AreSorted, IsLeft}
use Rattle.cmm_colour.proofs.Chosen.{none_of}
use Rattle.cmm_colour.proofs.Ordering.{AreStuck, HadFew, few_more, few_still, left_at_start, left_is_few, stuck_at_end}
use Rattle.cmm_colour.proofs.removing.remove_all.Goals as goal

pub loop-node-init : goal.loop-node-init
loop-node-init c =
    let rows = c.args.rows.now in
    let sorted = subst (λ (d : List ℕ). AreSorted c.args.k d c.in_ok-lists.lists) c.deref.ensures.value c.in_ok-lists.ensures in
    record {
      left = subst (λ (o : List ℕ). IsLeft rows c.args.k o c.in_ok-degrees.degrees.items c.in_ok-lists.lists) (sym c.new-order.ensures)
          (left_at_start rows c.args.k c.in_ok-degrees.degrees.items c.in_ok-lists.lists c.in_ok-degrees.ensures sorted);
      few = λ j low. (let none : length c.new-order.result ≡ 0 = ap (λ (o : List ℕ). length o) c.new-order.ensures in absurd (omega (arith, low, none)));
    }

pub loop-node-smaller : goal.loop-node-smaller
loop-node-smaller c =
    let few : length c.remove.new.order ≤ length c.args.rows.now = left_is_few c.args.rows.now c.args.k c.remove.new.order c.remove.new.degrees.items c.remove.new.lists c.in_ok-remove.ensures.left in
    let more : length c.remove.new.order ≡ length (c.loop-node.order ++ c.in-Some.node ∷ []) = ap (λ (o : List ℕ). length o) c.in_ok-remove.ensures.order in
    let less : length c.args.rows.now - length c.remove.new.order < length c.args.rows.now - length c.loop-node.order = omega (arith, few, more, length_push c.loop-node.order c.in-Some.node) in less

pub loop-node-preserved : goal.loop-node-preserved
loop-node-preserved c =
    let rows = c.args.rows.now in record {
      left = c.in_ok-remove.ensures.left;
      few = subst (λ (o : List ℕ). HadFew rows c.args.k o (length o)) (sym c.in_ok-remove.ensures.order)
          (few_more rows c.args.k c.loop-node.order c.loop-node.degrees.items c.loop-node.lists c.in-Some.node c.loop-node.invariant.left (sym c.front.ensures ∙ c.in-Some.is) c.loop-node.invariant.few);
    }

pub loop-node-2-init : goal.loop-node-2-init
loop-node-2-init c =
    let rows = c.args.rows.now in
    let order = c.loop-node.order in
    let peeled : c.len-peeled.result ≡ length order = c.len-peeled.ensures in
    record {
      left = c.loop-node.invariant.left;
      front = omega (arith, peeled);
      few = subst (λ n. HadFew rows c.args.k order n) (sym peeled) c.loop-node.invariant.few;
      stuck = subst (λ (o : List ℕ). AreStuck rows c.args.k o) (sym (take_all c.len-peeled.result order (omega (arith, peeled))))
          (stuck_at_end rows c.args.k order c.loop-node.degrees.items c.loop-node.lists c.loop-node.invariant.left (sym c.front.ensures ∙ none_of _ c.in_default.not-Some));
      below = (λ k d low. (let below = c.in_ok-candidates.ensures k d low in let same : length c.deref-2.result.now ≡ length c.loop-node.degrees.items = ap (λ (l : List ℕ). length l) c.deref-2.ensures.value in
          omega (arith, below, same, c.loop-node.invariant.left.sizes)));
    }

pub next-requires-clause-below : goal.next-requires-clause-below
next-requires-clause-below c j d low = let below = c.loop-node-2.invariant.below j d low in omega (arith, below, c.loop-node-2.invariant.left.nodes)

pub loop-node-2-smaller : goal.loop-node-2-smaller
loop-node-2-smaller c =
    let few : length c.remove-in-Some-next.new.order ≤ length c.args.rows.now =
    left_is_few c.args.rows.now c.args.k c.remove-in-Some-next.new.order c.remove-in-Some-next.new.degrees.items c.remove-in-Some-next.new.lists c.in_ok-remove-2.ensures.left in
    let more : length c.remove-in-Some-next.new.order ≡ length (c.loop-node-2.order ++ c.in-Some-next.node ∷ []) = ap (λ (o : List ℕ). length o) c.in_ok-remove-2.ensures.order in
    let less : length c.args.rows.now - length c.remove-in-Some-next.new.order < length c.args.rows.now - length c.loop-node-2.order = omega (arith, few, more, length_push c.loop-node-2.order c.in-Some-next.node) in less

pub loop-node-2-preserved : goal.loop-node-2-preserved
loop-node-2-preserved c =
    let rows = c.args.rows.now in
    let order = c.loop-node-2.order in
    let v = c.in-Some-next.node in
    let more : length c.remove-in-Some-next.new.order ≡ length (order ++ v ∷ []) = ap (λ (o : List ℕ). length o) c.in_ok-remove-2.ensures.order in
    record {
      left = c.in_ok-remove-2.ensures.left;
      front = omega (arith, more, length_push order v, c.loop-node-2.invariant.front);
      few = subst (λ (o : List ℕ). HadFew rows c.args.k o c.len-peeled.result) (sym c.in_ok-remove-2.ensures.order)
          (few_still rows c.args.k order c.len-peeled.result v c.loop-node-2.invariant.front c.loop-node-2.invariant.few);
      stuck = subst (λ (o : List ℕ). AreStuck rows c.args.k (take c.len-peeled.result o)) (sym c.in_ok-remove-2.ensures.order)
          (subst (λ (o : List ℕ). AreStuck rows c.args.k o) (sym (take-append-le c.len-peeled.result order (v ∷ []) c.loop-node-2.invariant.front)) c.loop-node-2.invariant.stuck);
      below = (λ j d low. (let below = c.next.ensures.below j d low in omega (arith, below, c.loop-node-2.invariant.left.nodes)));
    }
