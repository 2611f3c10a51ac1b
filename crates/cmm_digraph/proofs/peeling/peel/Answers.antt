use Rattle.std.proofs.Common.{◌≡◌, ℕ, ◌-◌, ◌+◌, ◌<◌, ◌≤◌, sym, subst, get_or, List, length, arith}
use Rattle.cmm_digraph.specs.inside.Waiting.{CanRelease, IsReleased}
use Rattle.cmm_digraph.proofs.Steps.{waiting_at_start, order_within, head_node, head_users, can_release, waiting_next, peeled_at_end}
use Rattle.cmm_digraph.proofs.peeling.peel.Goals as goal

pub loop-head-init : goal.loop-head-init
loop-head-init c = waiting_at_start c.args.graph.now c.in_ok-waiting.waiting.items c.in_ok-order.order c.in_ok-waiting.ensures (rw c.deref.ensures.value at c.in_ok-order.ensures)

pub release-requires : goal.release-requires
release-requires c =
    let graph = c.args.graph.now in
    let order = c.loop-head.order in
    let head = c.loop-head.head in
    let waiting = c.loop-head.waiting.items in
    let users = c.in_ok-users.users.items in
    let lt : head < length order = let t : head < c.len.result = c.loop-head-test.true in let l : c.len.result ≡ length order = c.len.ensures in omega arith in
    let node : get_or order head 0 < length graph = head_node graph waiting order head c.loop-head.invariant lt in
    let size : length users ≡ length graph = c.in_ok-users.ensures.size in
    subst (λ (us : List ℕ). CanRelease waiting us)
    (sym (head_users users c.as_slice.result.now order head c.index.result.now c.as_slice-in-loop-head.result.now c.as_slice.ensures c.index.ensures c.as_slice-in-loop-head.ensures (omega arith)))
    (can_release graph users waiting order head c.loop-head.invariant c.in_ok-users.ensures.users lt)

pub loop-head-smaller : goal.loop-head-smaller
loop-head-smaller c =
    let most : length c.loop-head.order ≤ length c.args.graph.now = order_within c.args.graph.now c.loop-head.waiting.items c.loop-head.order c.loop-head.head c.loop-head.invariant in
    let t : c.loop-head.head < c.len.result = c.loop-head-test.true in
    let l : c.len.result ≡ length c.loop-head.order = c.len.ensures in
    let less : length c.args.graph.now - (c.loop-head.head + 1) < length c.args.graph.now - c.loop-head.head = omega arith in less

pub loop-head-preserved : goal.loop-head-preserved
loop-head-preserved c =
    let graph = c.args.graph.now in
    let order = c.loop-head.order in
    let head = c.loop-head.head in
    let waiting = c.loop-head.waiting.items in
    let users = c.in_ok-users.users.items in
    let lt : head < length order = let t : head < c.len.result = c.loop-head-test.true in let l : c.len.result ≡ length order = c.len.ensures in omega arith in
    let node : get_or order head 0 < length graph = head_node graph waiting order head c.loop-head.invariant lt in
    let size : length users ≡ length graph = c.in_ok-users.ensures.size in
    waiting_next graph users waiting order c.release.new.waiting.items c.release.new.order head c.loop-head.invariant c.in_ok-users.ensures.users lt
    (subst (λ (us : List ℕ). IsReleased waiting order us c.release.new.waiting.items c.release.new.order)
    (head_users users c.as_slice.result.now order head c.index.result.now c.as_slice-in-loop-head.result.now c.as_slice.ensures c.index.ensures c.as_slice-in-loop-head.ensures (omega arith))
    c.in_ok-release.ensures)

pub returns : goal.returns
returns c =
    peeled_at_end c.args.graph.now c.loop-head.waiting.items c.loop-head.order c.in_ok-left.left c.loop-head.head c.requires c.loop-head.invariant
    (let t : c.len.result ≤ c.loop-head.head = c.loop-head-test.false in let l : c.len.result ≡ length c.loop-head.order = c.len.ensures in omega arith)
    (rw c.deref-2.ensures.value at c.in_ok-left.ensures)
