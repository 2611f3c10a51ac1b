use Rattle.std.proofs.Common.{◌≡◌, [], map, reverse, sym, subst}
use Rattle.std.proofs.lemmas.Iterator.Adapters.{YieldsList-from_rev_slice}
use Rattle.std.proofs.lemmas.Iterator.Consumers.{YieldsList-end}
use Rattle.cmm_flow.specs.inside.LayingBlocks.{LaysArms, LaysBlock, LaysForm}
use Rattle.cmm_flow.proofs.Laying.{if_ok}
use Rattle.cmm_flow.proofs.LayingBlocks.{arms_more, arms_none, block_more, block_none, continuation_lays, if_lays, span_lays, switch_lays, turned, turned_back}
use Rattle.cmm_flow.proofs.builder.Builder.+statement.Goals as goal

pub block-loop-statement-init : goal.block-loop-statement-init
block-loop-statement-init t c = block_none c.args.q.now c.args.self.now c.args.next

pub block-loop-statement-preserved : goal.block-loop-statement-preserved
block-loop-statement-preserved t c =
    subst (λ xs. LaysBlock c.args.self.now c.statement.new.self c.args.q.now xs c.in_ok-node.node c.args.next) (sym (turned (λ s. s.now) c.loop-statement.yielded c.in-Some.statement))
    (block_more c.args.q.now c.in-Some.statement.now (reverse (map (λ s. s.now) c.loop-statement.yielded)) c.in_ok-node.node c.loop-statement.node c.args.next
    c.loop-statement.invariant c.in_ok-node.ensures)

pub block-returns : goal.block-returns
block-returns t c =
    let e = YieldsList-end (YieldsList-from_rev_slice c.args.statements.now cc) c.loop-statement.yielded _ c.loop-statement.yielded_by _ _ c.in-None.is c.next.ensures.steps in
    let same : reverse (map (λ s. s.now) c.loop-statement.yielded) ≡ c.args.statements.now = turned_back _ c.args.statements.now e.0 in
    subst (λ xs. LaysBlock c.args.self.now c.loop-statement.self c.args.q.now xs c.loop-statement.node c.args.next) same c.loop-statement.invariant

pub arms-loop-arm-init : goal.arms-loop-arm-init
arms-loop-arm-init t c =
    subst (λ ways. LaysArms c.args.self.now c.args.self.now c.args.q.now [] (reverse ways) c.args.self.now.stop c.args.next) (sym c.new.ensures)
    (arms_none c.args.q.now c.args.self.now c.args.next)

pub arms-loop-arm-preserved : goal.arms-loop-arm-preserved
arms-loop-arm-preserved t c =
    subst (λ xs. LaysArms c.args.self.now c.block.new.self c.args.q.now xs (reverse c.push.new.self.backward) c.push.new.self.otherwise c.args.next)
    (sym (turned (λ a. a.now) c.loop-arm.yielded c.in-Some.arm))
    (arms_more c.args.q.now c.in-Some.arm.now (reverse (map (λ a. a.now) c.loop-arm.yielded)) (reverse c.loop-arm.ways.backward) (reverse c.push.new.self.backward)
    c.in_ok-first.first c.loop-arm.ways.otherwise c.push.new.self.otherwise c.args.next c.loop-arm.invariant
    (subst (λ xs. LaysBlock c.loop-arm.self c.block.new.self c.args.q.now xs c.in_ok-first.first c.args.next) c.as_slice.ensures c.in_ok-first.ensures)
    c.in_ok-push.ensures)

pub arms-returns : goal.arms-returns
arms-returns t c =
    let e = YieldsList-end (YieldsList-from_rev_slice c.args.arms.now cc) c.loop-arm.yielded _ c.loop-arm.yielded_by _ _ c.in-None.is c.next.ensures.steps in
    let same : reverse (map (λ a. a.now) c.loop-arm.yielded) ≡ c.args.arms.now = turned_back _ c.args.arms.now e.0 in
    subst (λ xs. LaysArms c.args.self.now c.loop-arm.self c.args.q.now xs (reverse c.loop-arm.ways.backward) c.loop-arm.ways.otherwise c.args.next) same c.loop-arm.invariant

pub statement-returns-in_ok-held-in-If : goal.statement-returns-in_ok-held-in-If
statement-returns-in_ok-held-in-If t c =
    let tokens = c.args.statement.now.tokens in
    if_ok c.test.result (λ n test.
    subst (λ f. LaysForm c.args.self.now c.test.new.self c.args.q.now tokens f n c.args.next) (sym c.in-If.is)
    (if_lays c.args.q.now tokens c.in-If.condition c.in-If.then c.in-If.otherwise n c.in_ok-held-in-If.held c.in_ok-failed-in-If.failed c.args.next
    (subst (λ xs. LaysBlock c.args.self.now c.block.new.self c.args.q.now xs c.in_ok-failed-in-If.failed c.args.next) c.as_slice.ensures c.in_ok-failed-in-If.ensures)
    (subst (λ xs. LaysBlock c.block.new.self c.block-in-If.new.self c.args.q.now xs c.in_ok-held-in-If.held c.args.next) c.as_slice-in-If.ensures c.in_ok-held-in-If.ensures)
    test)) c.test.ensures

pub statement-returns-in_ok-ways-in-Switch : goal.statement-returns-in_ok-ways-in-Switch
statement-returns-in_ok-ways-in-Switch t c =
    let tokens = c.args.statement.now.tokens in
    let ways = c.in_ok-ways-in-Switch.ways in
    if_ok c.switch.result (λ n switch.
    subst (λ f. LaysForm c.args.self.now c.switch.new.self c.args.q.now tokens f n c.args.next) (sym c.in-Switch.is)
    (switch_lays c.args.q.now tokens c.in-Switch.value c.in-Switch.arms (reverse ways.backward) n ways.otherwise c.args.next
    (subst (λ xs. LaysArms c.args.self.now c.arms.new.self c.args.q.now xs (reverse ways.backward) ways.otherwise c.args.next) c.as_slice-in-Switch.ensures
    c.in_ok-ways-in-Switch.ensures)
    switch)) c.switch.ensures

pub statement-returns-in_ok-first-in-Span : goal.statement-returns-in_ok-first-in-Span
statement-returns-in_ok-first-in-Span t c =
    let tokens = c.args.statement.now.tokens in
    if_ok c.push-in-Span.result (λ n is.
    subst (λ f. LaysForm c.args.self.now c.push-in-Span.new.self c.args.q.now tokens f n c.args.next) (sym c.in-Span.is)
    (span_lays c.args.q.now tokens c.in-Span.body n c.in_ok-first-in-Span.first c.args.next
    (subst (λ xs. LaysBlock c.args.self.now c.block-in-Span.new.self c.args.q.now xs c.in_ok-first-in-Span.first c.args.next) c.as_slice-in-Span.ensures
    c.in_ok-first-in-Span.ensures)
    is)) c.push-in-Span.ensures

pub statement-returns-in-Continuation : goal.statement-returns-in-Continuation
statement-returns-in-Continuation t c =
    let after = c.mark_continuation.new.self in
    let tokens = c.args.statement.now.tokens in
    subst (λ f. LaysForm c.args.self.now after c.args.q.now tokens f after.stop c.args.next) (sym c.in-Continuation.is)
    (continuation_lays c.args.q.now tokens c.in-Continuation.number c.args.next c.mark_continuation.ensures.marks c.mark_continuation.ensures.nodes)
