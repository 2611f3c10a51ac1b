use Rattle.std.proofs.Common.{refl}
use Rattle.cmm_flow.specs.Operands.{operands_of, operand_of}
use Rattle.cmm_flow.proofs.GoingOn.{goes_on, ends}
use Rattle.cmm_flow.proofs.expression.operands_of.Goals as goal

pub loop-e-preserved : goal.loop-e-preserved
loop-e-preserved c = goes_on operands_of (λ base e. operand_of base e) (λ base e es. refl) c.loop-e.operands c.push.new.self c.args.es.now c.loop-e.e-index c.loop-e.base c.in_ok-base.base c.e-item.result c.operand_of.result (operands_of c.args.base c.args.es.now)
    c.loop-e-test.true c.e-item.is c.operand_of.ensures c.in_ok-base.ensures c.in_ok-push.ensures.ok c.loop-e.invariant

pub returns : goal.returns
returns c = ends operands_of (λ base e. operand_of base e) (λ base e es. refl) c.loop-e.operands c.args.es.now c.loop-e.e-index c.loop-e.base _ (λ base. refl) c.loop-e-test.false c.loop-e.invariant
