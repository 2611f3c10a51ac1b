use Rattle.cmm_emit.proofs.Operands.{named_is_target}
use Rattle.cmm_emit.proofs.calling.call_callee.Goals as goal

pub call_label-requires-clause-target : goal.call_label-requires-clause-target
call_label-requires-clause-target c =
    named_is_target c.args.asm.now.labels c.args.context.now c.args.targets.now c.requires.ready c.args.callee c.in-Some.to c.in-Some.ensures

pub returns-in-Some-clause-code : goal.returns-in-Some-clause-code
returns-in-Some-clause-code c = c.call_label.ensures.code c.args.callee c.in-Some.ensures
