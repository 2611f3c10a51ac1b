use Rattle.std.proofs.Common.{[]}
use Rattle.cmm_static_semantics.specs.Scopes.{senses}
use Rattle.cmm_elaboration.specs.Resolving.{value_of}
use Rattle.cmm_proc_scope.specs.Bodies.{scope_of_body}
use Rattle.cmm_typing.specs.Resolved.{AlignmentsFit}
use Rattle.cmm_lower.proofs.Turns.{mapped_if}
use Rattle.cmm_lower.proofs.forms.sides_of.Goals as goal

pub loop-value-preserved : goal.loop-value-preserved
loop-value-preserved g c = mapped_if AlignmentsFit (value_of (senses (scope_of_body g.N.Names.senses c.args.names.now))) c.args.values.now c.loop-value.value-index c.value-item.result
    c.in_ok-made.made [] c.loop-value-test.true c.value-item.is c.in_ok-made.ensures c.in_ok-push.ensures.ok c.loop-value.invariant
