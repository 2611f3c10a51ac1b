use Rattle.std.proofs.Common.{◌≡◌, ◌++◌, map, subst}
use Rattle.std.specs.List.{All}
use Rattle.cmm_elaboration.specs.Sites.{continuation_of}
use Rattle.cmm_proc_scope.specs.Bodies.{scope_of_body}
use Rattle.cmm_lower.specs.Fitting.{IsContinuation}
use Rattle.cmm_lower.proofs.Continuations.{flow_next}
use Rattle.cmm_lower.proofs.exits.continuations_by.Goals as goal

pub loop-flow-preserved : goal.loop-flow-preserved
loop-flow-preserved g c = let s = scope_of_body g.N.Names.senses c.args.names.now in
    flow_next s c.args.exits c.args.flows.now c.loop-flow.flow-index c.flow-item.result c.loop-flow.numbers c.add_numbers.new.to c.loop-flow-test.true c.flow-item.is
    (subst (λ ns. All (IsContinuation s) ns → c.add_numbers.new.to ≡ c.loop-flow.numbers ++ map (continuation_of s) ns) c.names_by.ensures c.in_ok-add_numbers.ensures)
    c.loop-flow.invariant
