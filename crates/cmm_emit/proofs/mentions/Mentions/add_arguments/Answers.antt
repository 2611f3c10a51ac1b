use Rattle.std.proofs.Common.{◌≤◌, arith, length}
use Rattle.cmm_graph.specs.declared.operand.Argument.{Argument}
use Rattle.cmm_graph.specs.Paths.{values_of}
use Rattle.std.specs.List.{list_any}
use Rattle.cmm_unit_code.specs.declared.unit_code.Reference.{Reference}
use Rattle.cmm_emit.specs.Mentions.{operand_names}
use Rattle.cmm_emit.proofs.Mentioned.{adds_all, adds_more, adds_none, adds_so, any_made}
use Rattle.cmm_emit.proofs.mentions.Mentions.add_arguments.Goals as goal

pub loop-argument-init : goal.loop-argument-init
loop-argument-init c = adds_none c.args.self.now

pub loop-argument-preserved : goal.loop-argument-preserved
loop-argument-preserved c =
    adds_more (λ (x : Argument) (r : Reference). operand_names r x.value) c.args.arguments.now c.loop-argument.argument-index _ c.args.self.now c.loop-argument.self c.add_operand.new.self c.loop-argument-test.true
    c.loop-argument.invariant c.add_operand.ensures

pub returns : goal.returns
returns c =
    let done : length c.args.arguments.now ≤ c.loop-argument.argument-index = omega (arith, c.loop-argument-test.false) in
    let arguments = c.args.arguments.now in
    adds_so (λ r. list_any (λ a. operand_names r a.value) arguments) (λ r. list_any (operand_names r) (values_of arguments)) c.args.self.now c.loop-argument.self
    (λ r. any_made (operand_names r) (λ (a : Argument). a.value) arguments)
    (adds_all (λ (x : Argument) (r : Reference). operand_names r x.value) arguments c.loop-argument.argument-index c.args.self.now c.loop-argument.self done c.loop-argument.invariant)
