use Rattle.cmm_elaboration.specs.Sites.{continuation_of}
use Rattle.cmm_proc_scope.specs.Bodies.{scope_of_body}
use Rattle.cmm_lower.specs.Fitting.{IsContinuation}
use Rattle.cmm_lower.proofs.Turns.{mapped_if}
use Rattle.cmm_lower.proofs.exits.add_numbers.Goals as goal

pub loop-continuation-preserved : goal.loop-continuation-preserved
loop-continuation-preserved g c = let s = scope_of_body g.N.Names.senses c.args.names.now in
    mapped_if (IsContinuation s) (continuation_of s) c.args.continuations.now c.loop-continuation.continuation-index c.continuation-item.result c.continuation_number.result
    c.args.to.now c.loop-continuation-test.true c.continuation-item.is c.continuation_number.ensures c.in_ok-push.ensures.ok c.loop-continuation.invariant
