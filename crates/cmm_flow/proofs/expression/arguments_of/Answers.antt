use Rattle.std.proofs.Common.{refl}
use Rattle.cmm_flow.specs.Operands.{arguments_of}
use Rattle.cmm_flow.proofs.GoingOn.{goes_on, ends}
use Rattle.cmm_flow.proofs.expression.arguments_of.Goals as goal

pub loop-e-preserved : goal.loop-e-preserved
loop-e-preserved c = goes_on arguments_of _ (λ base e es. refl) c.loop-e.arguments c.push.new.self c.args.es.now c.loop-e.e-index c.loop-e.base c.in_ok-base.base c.e-item.result (record { width = c.width_of.result; value = c.operand_of.result }) (arguments_of c.args.base c.args.es.now)
    c.loop-e-test.true c.e-item.is (rw (c.width_of.ensures, c.operand_of.ensures, c.e-item.is) refl) c.in_ok-base.ensures c.in_ok-push.ensures.ok c.loop-e.invariant

pub returns : goal.returns
returns c = ends arguments_of _ (λ base e es. refl) c.loop-e.arguments c.args.es.now c.loop-e.e-index c.loop-e.base _ (λ base. refl) c.loop-e-test.false c.loop-e.invariant
