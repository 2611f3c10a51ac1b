use Rattle.std.proofs.Common.{◌≡◌, ◌∙◌, ◌<◌, ◌≤◌, ℕ, true, false, length, get_or, sym, subst, arith}
use Rattle.std.proofs.lemmas.List.{get_or_default}
use Rattle.std.proofs.lemmas.Bool.{eq-eqb}
use Rattle.std.proofs.lemmas.Bool.Decides.{nat_tests}
use Rattle.cmm_digraph.proofs.Counting.{below_index}
use Rattle.cmm_digraph.proofs.Releasing.{waits, released_by}
use Rattle.cmm_digraph.proofs.waiting.release.Goals as goal
use Rattle.cmm_digraph.proofs.waiting.release.Goals.{then-index-eq0+in_ok-push, else-index-eq0}

pub overflow_sub-index_mut : goal.overflow_sub-index_mut
overflow_sub-index_mut c =
    let us = c.args.users.now in
    let i = c.loop-user.user-index in
    let now = c.loop-user.waiting.items in
    let node : get_or us i 0 < length c.args.waiting.now.items = below_index _ us i c.requires.nodes c.loop-user-test.true in
    let size : length now ≡ length c.args.waiting.now.items = c.loop-user.invariant.size in
    subst (λ (n : ℕ). 1 ≤ n) (sym (c.index_mut.ensures.value ∙ get_or_default now (get_or us i 0) c.index_mut.result.now 0 (omega arith)))
    (waits us i c.args.waiting.now.items c.args.order.now now c.loop-user.order c.loop-user-test.true node c.requires c.loop-user.invariant)

pub loop-user-preserved : goal.loop-user-preserved
loop-user-preserved c =
    let us = c.args.users.now in
    let i = c.loop-user.user-index in
    let node = below_index _ us i c.requires.nodes c.loop-user-test.true in elim c.if-index-eq0.branch [
      | then-index-eq0+in_ok-push w ↦ released_by us i c.args.waiting.now.items c.args.order.now c.loop-user.waiting.items c.loop-user.order c.if-index-eq0.order c.index_mut.result.now
          c.index.result.now c.loop-user-test.true node c.requires c.loop-user.invariant c.index_mut.ensures.value c.index.ensures true (eq-eqb c.index.result.now 0 w.if-index-eq0.true)
          (w.order-is ∙ w.in_ok-push.ensures.ok)
      | else-index-eq0 w ↦ released_by us i c.args.waiting.now.items c.args.order.now c.loop-user.waiting.items c.loop-user.order c.if-index-eq0.order c.index_mut.result.now
          c.index.result.now c.loop-user-test.true node c.requires c.loop-user.invariant c.index_mut.ensures.value c.index.ensures false (let no = w.if-index-eq0.false in grind (arith, nat_tests)) w.order-is
    ]
