use Rattle.std.proofs.Common.{◌≤◌, arith, length}
use Rattle.cmm_graph.specs.declared.operand.Operand.{Operand}
use Rattle.cmm_unit_code.specs.declared.unit_code.Reference.{Reference}
use Rattle.cmm_emit.specs.Mentions.{operand_names}
use Rattle.cmm_emit.proofs.Mentioned.{adds_all, adds_more, adds_none}
use Rattle.cmm_emit.proofs.mentions.Mentions.add_operands.Goals as goal

pub loop-operand-init : goal.loop-operand-init
loop-operand-init c = adds_none c.args.self.now

pub loop-operand-preserved : goal.loop-operand-preserved
loop-operand-preserved c =
    adds_more (λ (x : Operand) (r : Reference). operand_names r x) c.args.operands.now c.loop-operand.operand-index _ c.args.self.now c.loop-operand.self c.add_operand.new.self c.loop-operand-test.true
    c.loop-operand.invariant c.add_operand.ensures

pub returns : goal.returns
returns c =
    let done : length c.args.operands.now ≤ c.loop-operand.operand-index = omega (arith, c.loop-operand-test.false) in
    adds_all (λ (x : Operand) (r : Reference). operand_names r x) c.args.operands.now c.loop-operand.operand-index c.args.self.now c.loop-operand.self done c.loop-operand.invariant
