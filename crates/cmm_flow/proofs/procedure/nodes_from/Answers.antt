use Rattle.std.proofs.Common.{arith}
use Rattle.cmm_flow.proofs.Numbering.{counted_more}
use Rattle.cmm_flow.proofs.procedure.nodes_from.Goals as goal

pub loop-preserved : goal.loop-preserved
loop-preserved c = (
  omega (arith, c.in_ok-number.ensures, c.loop.invariant.0),
  counted_more (λ n. n.number) c.loop.nodes c.push.new.self record { number = c.loop.number } c.args.first c.loop.counter c.loop.invariant.1
      c.in_ok-push.ensures.ok c.loop.invariant.0,
)
